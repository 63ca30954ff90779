use Rattle.std.proofs.Common.{◌≡◌, drop, true}
use Rattle.ssa_path.specs.Children.{elements, rises}
use Rattle.ssa_typed.proofs.in_order.elements_rise.Given as goal

-- those from the place on rise
abbrev pub invariant-loop-place : goal.invariant-loop-place
invariant-loop-place l = rises (elements (drop l.place l.children)) ≡ true

abbrev pub decreases-loop-place : goal.decreases-loop-place
decreases-loop-place l = l.place
