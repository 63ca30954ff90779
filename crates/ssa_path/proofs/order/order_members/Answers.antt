use Rattle.std.proofs.Common.{◌+◌, ◌++◌, ◌∙◌, ap, sym, drop}
use Rattle.std.specs.Ordering.{ordering_then}
use Rattle.ssa_model.specs.definitions.Json.{scalar_text}
use Rattle.ssa_json.specs.View.{scalar_view}
use Rattle.ssa_path.specs.Keys.{members_view}
use Rattle.ssa_path.specs.Order.{key_end}
use Rattle.ssa_path.proofs.Parts.{text_cmp}
use Rattle.ssa_path.proofs.Members.{members-at, then_found}
use Rattle.ssa_path.proofs.order.order_members.Goals as goal

pub returns-in-Equal : goal.returns-in-Equal
returns-in-Equal c =
    let k = c.index-keys-i.result in
    let l = c.index-others-i.result in
    c.order_scalars.ensures
    ∙ (λ j. ordering_then (sym c.in-Equal.is j) (text_cmp (scalar_text (scalar_view k.1) ++ c.end_at.ensures j)
    (scalar_text (scalar_view l.1) ++ c.end_at-in-Equal.ensures j)))
    ∙ ap (λ o. ordering_then o (text_cmp (scalar_text (scalar_view k.1) ++ key_end (drop (c.args.i + 1) (members_view c.args.keys.now)))
    (scalar_text (scalar_view l.1) ++ key_end (drop (c.args.i + 1) (members_view c.args.others.now))))) c.order_names.ensures
    ∙ sym (members-at c.args.keys.now c.args.others.now c.args.i k l c.requires.own c.requires.others c.index-keys-i.is c.index-others-i.is)

pub returns-in_default : goal.returns-in_default
returns-in_default c =
    let k = c.index-keys-i.result in
    let l = c.index-others-i.result in
    let rest = text_cmp (scalar_text (scalar_view k.1) ++ key_end (drop (c.args.i + 1) (members_view c.args.keys.now)))
    (scalar_text (scalar_view l.1) ++ key_end (drop (c.args.i + 1) (members_view c.args.others.now))) in
    then_found c.order_names.result rest c.in_default.not-Equal
    ∙ ap (λ o. ordering_then o rest) c.order_names.ensures
    ∙ sym (members-at c.args.keys.now c.args.others.now c.args.i k l c.requires.own c.requires.others c.index-keys-i.is c.index-others-i.is)
