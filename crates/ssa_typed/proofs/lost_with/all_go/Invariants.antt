use Rattle.std.proofs.Common.{◌≡◌, drop}
use Rattle.ssa_typed.specs.LostWith.{all_here}
use Rattle.ssa_typed.proofs.lost_with.all_go.Given as goal

abbrev pub invariant-loop-part : goal.invariant-loop-part
invariant-loop-part l = all_here l.fallen ≡ all_here (drop l.part-index l.fallen)
