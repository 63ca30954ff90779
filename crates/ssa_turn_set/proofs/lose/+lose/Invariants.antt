use Rattle.std.proofs.Common.{◌≡◌, ◌+◌, ◌*◌, ◌-◌, length, take, drop}
use Rattle.std.specs.Prelude.{vec_capacity}
use Rattle.ssa_turn_set.proofs.Passing.{IsPassing}
use Rattle.ssa_turn_set.proofs.lose.+lose.Given as goal

abbrev pub invariant-take_out-loop-i : goal.invariant-take_out-loop-i
invariant-take_out-loop-i l =
    let rs = l.fn.rooms.items in
    IsPassing l.fn.below.items (take l.i l.lost) (drop l.i l.lost) (take l.i rs) (take l.i l.rooms.items) (drop l.i rs) l.below.items l.start l.any_bare
    × (drop l.i l.rooms.items ≡ drop l.i rs)
    × (vec_capacity l.below ≡ vec_capacity l.fn.below)

abbrev pub decreases-take_out-loop-i : goal.decreases-take_out-loop-i
decreases-take_out-loop-i l = length l.lost - l.i

-- a list of children is as deep as the deepest of them, and a child as its set: so each step from one function to another counts as well
abbrev pub decreases-lose : goal.decreases-lose
decreases-lose l = 5 * goal.size-lose l + 1

abbrev pub decreases-lose_each : goal.decreases-lose_each
decreases-lose_each l = 5 * goal.size-lose_each l

abbrev pub decreases-lose_child : goal.decreases-lose_child
decreases-lose_child l = 5 * goal.size-lose_child l + 2

abbrev pub decreases-take_one_out : goal.decreases-take_one_out
decreases-take_one_out l = 5 * goal.size-take_one_out l + 3

abbrev pub decreases-take_out : goal.decreases-take_out
decreases-take_out l = 5 * goal.size-take_out l + 4
