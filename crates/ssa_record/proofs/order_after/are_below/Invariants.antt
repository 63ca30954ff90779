use Rattle.std.proofs.Common.{◌≡◌, drop}
use Rattle.ssa_record.specs.Refilled.{all_below}
use Rattle.ssa_record.proofs.order_after.are_below.Given as goal

abbrev pub invariant-loop-place : goal.invariant-loop-place
invariant-loop-place l = all_below l.count l.puts ≡ all_below l.count (drop l.place-index l.puts)
