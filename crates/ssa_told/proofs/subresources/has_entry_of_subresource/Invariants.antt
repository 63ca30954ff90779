use Rattle.std.proofs.Common.{◌≡◌, drop}
use Rattle.ssa_model.specs.definitions.ToldParts.{any_item, is_entry_of_subresource}
use Rattle.ssa_json.specs.View.{items_view}
use Rattle.ssa_told.proofs.subresources.has_entry_of_subresource.Given as goal

-- what is left decides
abbrev pub invariant-loop-entry : goal.invariant-loop-entry
invariant-loop-entry l = any_item is_entry_of_subresource (items_view l.entries) ≡ any_item is_entry_of_subresource (items_view (drop l.entry-index l.entries))
