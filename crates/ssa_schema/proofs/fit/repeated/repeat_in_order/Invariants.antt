use Rattle.std.proofs.Common.{◌≡◌, take, map}
use Rattle.ssa_schema.specs.Repeats.{placed_view}
use Rattle.ssa_schema.proofs.Repeats.{numbered}
use Rattle.ssa_schema.proofs.Rows.{tagged_of}
use Rattle.ssa_schema.proofs.fit.repeated.repeat_in_order.Given as goal

-- the keys so far, with their tags and places
abbrev pub invariant-loop-place : goal.invariant-loop-place
invariant-loop-place l = placed_view l.placed.items ≡ numbered 0 (map tagged_of (take l.place l.keys))
