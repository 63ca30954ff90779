use Rattle.std.proofs.Common.{◌≡◌, [], map, take}
use Rattle.ssa_typed.specs.MergedOrder.{beside}
use Rattle.ssa_typed.proofs.merged_order.none_beside.Given as goal

abbrev pub invariant-loop-child : goal.invariant-loop-child
invariant-loop-child l = l.none.items ≡ map (beside []) (take l._child-index l.live)
