use Rattle.std.proofs.Common.{◌≡◌, map, take}
use Rattle.ssa_typed.specs.MergedOrder.{lent_place, places}
use Rattle.ssa_typed.proofs.merged_order.places_in_order.Given as goal

abbrev pub invariant-loop-i : goal.invariant-loop-i
invariant-loop-i l = map lent_place l.sorted.items ≡ places (take l.i l.children)
