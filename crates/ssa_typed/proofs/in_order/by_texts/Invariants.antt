use Rattle.std.proofs.Common.{◌≡◌, take}
use Rattle.ssa_typed.specs.InOrder.{referred}
use Rattle.ssa_typed.proofs.in_order.by_texts.Given as goal

abbrev pub invariant-loop-child : goal.invariant-loop-child
invariant-loop-child l = referred l.sorted.items ≡ take l.child-index l.children
