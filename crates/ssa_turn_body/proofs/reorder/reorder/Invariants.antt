use Rattle.std.proofs.Common.{◌≡◌, take}
use Rattle.ssa_turn_body.specs.Orders.{reordered}
use Rattle.ssa_turn_body.proofs.reorder.reorder.Given as goal

abbrev pub invariant-loop-i : goal.invariant-loop-i
invariant-loop-i g l = l.items.items ≡ reordered l.fn.items.items (take l.i l.swaps)
