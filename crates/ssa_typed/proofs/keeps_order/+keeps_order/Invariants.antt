use Rattle.std.proofs.Common.{length, take}
use Rattle.ssa_typed.specs.KeepsOrder.{ChildrenKeepOrder}
use Rattle.ssa_typed.specs.Rows.{rows}
use Rattle.ssa_typed.proofs.keeps_order.+keeps_order.Given as goal

abbrev pub decreases-keeps_order : goal.decreases-keeps_order
decreases-keeps_order l = length (rows l.live.now)

abbrev pub invariant-loop-child : goal.invariant-loop-child
invariant-loop-child l = ChildrenKeepOrder l.own (take l.child-index l.others)
