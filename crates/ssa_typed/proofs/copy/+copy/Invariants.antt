use Rattle.std.proofs.Common.{◌≡◌, take}
use Rattle.ssa_typed.specs.Copies.{kept_below}
use Rattle.ssa_typed.proofs.copy.+copy.Given as goal

abbrev pub invariant-copied_children-loop-child : goal.invariant-copied_children-loop-child
invariant-copied_children-loop-child l = kept_below l.copies.items ≡ kept_below (take l.child-index l.child-items)
