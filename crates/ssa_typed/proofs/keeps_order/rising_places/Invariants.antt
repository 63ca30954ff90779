use Rattle.ssa_typed.specs.MergedOrder.{ArePlacesOf}
use Rattle.ssa_typed.proofs.InOneOrder.{IsOrderedSoFar}
use Rattle.ssa_typed.proofs.keeps_order.rising_places.Given as goal

abbrev pub invariant-loop-child : goal.invariant-loop-child
invariant-loop-child l = IsOrderedSoFar l.live l.config l.next l.child-index × ArePlacesOf l.live l.places
