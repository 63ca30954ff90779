use Rattle.std.proofs.Common.{ap, [], ◌∙◌}
use Rattle.std.proofs.lemmas.Result.{IfOk-weaker}
use Rattle.std.specs.Prelude.{map}
use Rattle.ssa_json.specs.View.{items_view}
use Rattle.ssa_schema.specs.Kinds.{names_view}
use Rattle.ssa_schema.specs.Repeats.{row_view, same_row, repeat_from}
use Rattle.ssa_schema.proofs.Leading.{keys-repeat}
use Rattle.ssa_schema.proofs.fit.leading.repeated_item.Goals as goal

pub returns : goal.returns
returns c =
    IfOk-weaker c.first_repeat.result _ _
    (λ place is. is ∙ ap (λ ks. repeat_from same_row 0 [] (map row_view ks)) c.deref.ensures.value ∙ ap (repeat_from same_row 0 []) c.in_ok-keys.ensures
    ∙ keys-repeat (names_view c.args.names.now) (items_view c.args.items.now)) c.first_repeat.ensures
