-- The buffer keeps its length, and an interrupted read consumes nothing.
use Rattle.std.proofs.Common.{◌≡◌, length}
use Rattle.std.specs.Io.KnownBytes.{Keeps}
use Rattle.ssa_json.proofs.retrying.read_on.Given as goal

abbrev pub invariant-loop : goal.invariant-loop
invariant-loop g l = (length l.bytes ≡ length l.initial.bytes) × Keeps (g.R.Read.remaining l.initial.reader) (g.R.Read.remaining l.reader)
