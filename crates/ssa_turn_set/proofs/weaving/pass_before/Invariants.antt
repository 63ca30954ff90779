use Rattle.std.proofs.Common.{◌≡◌, ◌+◌, ◌≤◌, ◌++◌, ◌∷◌, [], length, reverse, true}
use Rattle.std.specs.Prelude.{vec_capacity}
use Rattle.ssa_path.specs.Children.{elements, rises}
use Rattle.ssa_path.specs.View.{element_view}
use Rattle.ssa_turn_set.proofs.weaving.pass_before.Given as goal

abbrev pub invariant-loop-left : goal.invariant-loop-left
invariant-loop-left l =
    (l.passed.items ++ reverse l.left.items ≡ l.fn.passed.items ++ reverse l.fn.left.items)
    × (rises (elements l.passed.items ++ element_view l.element ∷ []) ≡ true)
    × (length l.passed.items + length l.left.items ≤ vec_capacity l.passed)
    × (vec_capacity l.fn.passed ≤ vec_capacity l.passed)
    × (vec_capacity l.left ≡ vec_capacity l.fn.left)

abbrev pub decreases-loop-left : goal.decreases-loop-left
decreases-loop-left l = length l.left.items
