use Rattle.std.proofs.Common.{◌+◌, ◌*◌, ◌-◌, length}
use Rattle.ssa_path.proofs.TakingOut.{IsTaking, IsTakingFound}
use Rattle.ssa_path.proofs.taking_out.+take_out_over.Given as goal

abbrev pub invariant-take_out_beside-loop-order : goal.invariant-take_out_beside-loop-order
invariant-take_out_beside-loop-order l = IsTaking l.fn.own.items l.others l.own.items l.i l.j l.any_bare

abbrev pub decreases-take_out_beside-loop-order : goal.decreases-take_out_beside-loop-order
decreases-take_out_beside-loop-order l = (length l.own.items - l.i) + (length l.others - l.j)

abbrev pub invariant-take_out_found-loop-i : goal.invariant-take_out_found-loop-i
invariant-take_out_found-loop-i l = IsTakingFound l.fn.own.items l.others l.own.items l.i l.any_bare

abbrev pub decreases-take_out_found-loop-i : goal.decreases-take_out_found-loop-i
decreases-take_out_found-loop-i l = length l.own.items - l.i

-- a list of children is as deep as the deepest of them, and a child as its set: so each step from one function to another counts as well
abbrev pub decreases-take_out_over : goal.decreases-take_out_over
decreases-take_out_over l = 3 * goal.size-take_out_over l

abbrev pub decreases-take_out_of_child : goal.decreases-take_out_of_child
decreases-take_out_of_child l = 3 * goal.size-take_out_of_child l + 1

abbrev pub decreases-take_out_beside : goal.decreases-take_out_beside
decreases-take_out_beside l = 3 * goal.size-take_out_beside l + 2

abbrev pub decreases-take_out_found : goal.decreases-take_out_found
decreases-take_out_found l = 3 * goal.size-take_out_found l + 2
