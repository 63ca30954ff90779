use Rattle.std.proofs.Common.{◌≡◌, drop}
use Rattle.ssa_model.specs.definitions.Schema.{is_scalar_property, item_members}
use Rattle.ssa_json.specs.View.{items_view, members_view}
use Rattle.ssa_schema.specs.Words.{each_text}
use Rattle.ssa_schema.proofs.read.keys.are_scalar_keys.Given as goal

-- what is left decides
abbrev pub invariant-loop-key : goal.invariant-loop-key
invariant-loop-key l =
    each_text (is_scalar_property (item_members (members_view l.members.entries))) (items_view l.keys)
    ≡ each_text (is_scalar_property (item_members (members_view l.members.entries))) (items_view (drop l.key-index l.keys))
