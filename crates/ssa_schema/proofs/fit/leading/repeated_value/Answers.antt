use Rattle.std.proofs.Common.{ap, [], ◌∙◌}
use Rattle.std.proofs.lemmas.Result.{IfOk-weaker}
use Rattle.std.specs.Prelude.{map}
use Rattle.ssa_json.specs.View.{items_view}
use Rattle.ssa_schema.specs.Kinds.{scalar_kind_view}
use Rattle.ssa_schema.specs.Repeats.{row_view, same_row, repeat_from}
use Rattle.ssa_schema.proofs.Leading.{values-repeat}
use Rattle.ssa_schema.proofs.fit.leading.repeated_value.Goals as goal

pub returns : goal.returns
returns c =
    IfOk-weaker c.first_repeat.result _ _
    (λ place is. is ∙ ap (λ ks. repeat_from same_row 0 [] (map row_view ks)) c.deref.ensures.value ∙ ap (repeat_from same_row 0 []) c.in_ok-keys.ensures
    ∙ values-repeat (scalar_kind_view c.args.wanted.now) (items_view c.args.items.now)) c.first_repeat.ensures
