use Rattle.std.specs.Vec.Iter.{into_iter_items}
use Rattle.ssa_model.specs.definitions.Body.{value_order, value_places}
use Rattle.ssa_json.specs.View.{items_view}
use Rattle.ssa_schema.specs.Kinds.{scalar_kind_view}
use Rattle.ssa_typed.proofs.Building.{IsListing}
use Rattle.ssa_model.proofs.FaultlessParts.{ValuesFitAfter}
use Rattle.ssa_typed.proofs.build.value_children.Given as goal

-- the items so far, and those that are left
abbrev pub invariant-loop-item : goal.invariant-loop-item
invariant-loop-item l = record {
  listing : IsListing (value_order (items_view (into_iter_items l.item-iterator))) (value_places (items_view (into_iter_items l.item-iterator)))
      (value_order (items_view l.fn.items.items)) (value_places (items_view l.fn.items.items)) l.children.items;
  fits : ValuesFitAfter (scalar_kind_view l.kind) (items_view (into_iter_items l.item-iterator));
}
