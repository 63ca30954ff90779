use Rattle.std.proofs.Common.{◌∙◌}
use Rattle.ssa_model.specs.definitions.Schema.{is_scalar_property, item_members, key_names}
use Rattle.ssa_json.specs.View.{members_view, items_view}
use Rattle.ssa_schema.proofs.Distinct.{each_text-all}
use Rattle.ssa_schema.proofs.read.keys.has_scalar_keys.Goals as goal

pub returns : goal.returns
returns c =
    let ms = members_view c.args.members.now.entries in
    c.are_scalar_keys.ensures ∙ each_text-all (is_scalar_property (item_members ms)) (items_view c.key_items.result.now) (key_names ms) c.key_items.ensures
