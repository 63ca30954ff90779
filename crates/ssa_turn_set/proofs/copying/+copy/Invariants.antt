use Rattle.std.proofs.Common.{take}
use Rattle.std.specs.List.{AllZip}
use Rattle.ssa_turn_set.specs.Copies.{ChildServes}
use Rattle.ssa_turn_set.proofs.copying.+copy.Given as goal

abbrev pub invariant-copy_each-loop-child : goal.invariant-copy_each-loop-child
invariant-copy_each-loop-child l = AllZip ChildServes (take l.child-index l.rooms) l.below.items
