use Rattle.std.proofs.Common.{◌≡◌, take}
use Rattle.ssa_typed.specs.MergedOrder.{live_places}
use Rattle.ssa_typed.proofs.live_places.places_numbered.Given as goal

abbrev pub invariant-loop-child : goal.invariant-loop-child
invariant-loop-child l = l.found.items ≡ live_places l.live (take l.child-index l.config)
