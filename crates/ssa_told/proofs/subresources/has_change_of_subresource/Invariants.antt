use Rattle.std.proofs.Common.{◌≡◌, drop}
use Rattle.ssa_model.specs.definitions.ToldParts.{any_item, has_subresource}
use Rattle.ssa_json.specs.View.{items_view}
use Rattle.ssa_told.proofs.subresources.has_change_of_subresource.Given as goal

-- what is left decides
abbrev pub invariant-loop-change : goal.invariant-loop-change
invariant-loop-change l = any_item has_subresource (items_view l.changes) ≡ any_item has_subresource (items_view (drop l.change-index l.changes))
