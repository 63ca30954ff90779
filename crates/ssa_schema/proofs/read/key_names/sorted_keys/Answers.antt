use Rattle.std.proofs.Common.{◌∙◌}
use Rattle.std.proofs.lemmas.Result.{IfOk-weaker}
use Rattle.ssa_model.specs.definitions.Schema.{key_names}
use Rattle.ssa_json.specs.View.{members_view, items_view}
use Rattle.ssa_schema.proofs.Sorting.{sorted_items-texts}
use Rattle.ssa_schema.proofs.read.key_names.sorted_keys.Goals as goal

pub returns : goal.returns
returns c =
    IfOk-weaker c.list_of_names.result _ _
    (λ v made. made ∙ c.in_ok-sorted.ensures ∙ sorted_items-texts (items_view c.key_items.result.now) (key_names (members_view c.args.members.now.entries))
    c.key_items.ensures)
    c.list_of_names.ensures
