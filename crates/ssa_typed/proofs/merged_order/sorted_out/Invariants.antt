use Rattle.std.proofs.Common.{◌≡◌, drop}
use Rattle.std.specs.Vec.Iter.{into_iter_items}
use Rattle.ssa_typed.specs.MergedOrder.{live_places}
use Rattle.ssa_typed.proofs.SortedOut.{IsSortingOut}
use Rattle.ssa_typed.proofs.merged_order.sorted_out.Given as goal

-- and of the children that are left the places that are left
abbrev pub invariant-loop-child : goal.invariant-loop-child
invariant-loop-child l =
    IsSortingOut l.live l.fn.config.items (into_iter_items l.child-iterator) l.beside.items l.new.items
    × (drop l.i l.found.items ≡ live_places l.live (into_iter_items l.child-iterator))
