use Rattle.std.proofs.Common.{◌≡◌, take}
use Rattle.ssa_typed.specs.Copies.{kept_below}
use Rattle.ssa_turn_body.proofs.copying.copy_held.Given as goal

abbrev pub invariant-loop-child : goal.invariant-loop-child
invariant-loop-child l = kept_below l.copies.items ≡ kept_below (take l.child-index l.child-items)
