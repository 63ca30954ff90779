use Rattle.std.proofs.Common.{◌≡◌, drop}
use Rattle.std.specs.Prelude.{is_some}
use Rattle.ssa_model.specs.definitions.Values.{texts_of}
use Rattle.ssa_json.specs.View.{items_view}
use Rattle.ssa_told.proofs.value_shape.are_texts.Given as goal

-- what is left decides
abbrev pub invariant-loop-item : goal.invariant-loop-item
invariant-loop-item l = is_some (texts_of (items_view l.items)) ≡ is_some (texts_of (items_view (drop l.item-index l.items)))
