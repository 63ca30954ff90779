use Rattle.std.proofs.Common.{length, ◌-◌}
use Rattle.ssa_typed.proofs.Left.{IsPassed}
use Rattle.ssa_typed.proofs.same_ends.behind_same.Given as goal

abbrev pub invariant-loop-place : goal.invariant-loop-place
invariant-loop-place l = IsPassed l.own l.others l.place

abbrev pub decreases-loop-place : goal.decreases-loop-place
decreases-loop-place l = length l.own - l.place
