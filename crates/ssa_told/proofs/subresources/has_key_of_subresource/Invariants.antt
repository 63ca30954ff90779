use Rattle.std.proofs.Common.{◌≡◌, drop}
use Rattle.ssa_model.specs.definitions.ToldParts.{any_item, is_key_of_subresource}
use Rattle.ssa_json.specs.View.{items_view}
use Rattle.ssa_told.proofs.subresources.has_key_of_subresource.Given as goal

-- what is left decides
abbrev pub invariant-loop-key : goal.invariant-loop-key
invariant-loop-key l = any_item is_key_of_subresource (items_view l.keys) ≡ any_item is_key_of_subresource (items_view (drop l.key-index l.keys))
