use Rattle.std.proofs.Common.{◌++◌, ◌∙◌, sym}
use Rattle.std.specs.Ordering.{ordering_then}
use Rattle.ssa_members.specs.Texts.{text_bytes}
use Rattle.ssa_model.specs.definitions.Json.{scalar_text}
use Rattle.ssa_json.specs.View.{scalar_view}
use Rattle.ssa_path.proofs.Parts.{text_cmp}
use Rattle.ssa_path.proofs.Members.{then_found}
use Rattle.ssa_path.proofs.Numbers.{quoted-cmp, text-number, number-text, number-before, number-behind}
use Rattle.ssa_path.proofs.order.order_scalars.Goals as goal

pub returns-in-Equal : goal.returns-in-Equal
returns-in-Equal c =
    c.order_ends.ensures
    ∙ (λ i. ordering_then ((sym c.in-Equal.is ∙ c.order_texts.ensures) i) (text_cmp c.args.end.now c.args.other_end.now))
    ∙ sym (quoted-cmp (text_bytes c.in-Text-Text.text) (text_bytes c.in-Text-Text.other_text) c.args.end.now c.args.other_end.now)
    ∙ (λ i. text_cmp (scalar_text (scalar_view (sym c.in-Text-Text.is-0 i)) ++ c.args.end.now)
    (scalar_text (scalar_view (sym c.in-Text-Text.is-1 i)) ++ c.args.other_end.now))

pub returns-in_default : goal.returns-in_default
returns-in_default c =
    let rest = text_cmp c.args.end.now c.args.other_end.now in
    then_found c.order_texts.result rest c.in_default.not-Equal
    ∙ (λ i. ordering_then (c.order_texts.ensures i) rest)
    ∙ sym (quoted-cmp (text_bytes c.in-Text-Text.text) (text_bytes c.in-Text-Text.other_text) c.args.end.now c.args.other_end.now)
    ∙ (λ i. text_cmp (scalar_text (scalar_view (sym c.in-Text-Text.is-0 i)) ++ c.args.end.now)
    (scalar_text (scalar_view (sym c.in-Text-Text.is-1 i)) ++ c.args.other_end.now))

pub returns-in-Text-Int : goal.returns-in-Text-Int
returns-in-Text-Int c =
    sym (text-number (text_bytes c.in-Text-Int.field-0-0) c.in-Text-Int.field-0-1 c.args.end.now c.args.other_end.now)
    ∙ (λ i. text_cmp (scalar_text (scalar_view (sym c.in-Text-Int.is-0 i)) ++ c.args.end.now)
    (scalar_text (scalar_view (sym c.in-Text-Int.is-1 i)) ++ c.args.other_end.now))

pub returns-in-Int-Text : goal.returns-in-Int-Text
returns-in-Int-Text c =
    sym (number-text c.in-Int-Text.field-0-0 (text_bytes c.in-Int-Text.field-0-1) c.args.end.now c.args.other_end.now)
    ∙ (λ i. text_cmp (scalar_text (scalar_view (sym c.in-Int-Text.is-0 i)) ++ c.args.end.now)
    (scalar_text (scalar_view (sym c.in-Int-Text.is-1 i)) ++ c.args.other_end.now))

pub returns-in-Int-Bool : goal.returns-in-Int-Bool
returns-in-Int-Bool c =
    sym (number-before c.in-Int-Bool.field-0-0 c.in-Int-Bool.field-0-1 c.args.end.now c.args.other_end.now)
    ∙ (λ i. text_cmp (scalar_text (scalar_view (sym c.in-Int-Bool.is-0 i)) ++ c.args.end.now)
    (scalar_text (scalar_view (sym c.in-Int-Bool.is-1 i)) ++ c.args.other_end.now))

pub returns-in-Bool-Int : goal.returns-in-Bool-Int
returns-in-Bool-Int c =
    sym (number-behind c.in-Bool-Int.field-0-1 c.in-Bool-Int.field-0-0 c.args.end.now c.args.other_end.now)
    ∙ (λ i. text_cmp (scalar_text (scalar_view (sym c.in-Bool-Int.is-0 i)) ++ c.args.end.now)
    (scalar_text (scalar_view (sym c.in-Bool-Int.is-1 i)) ++ c.args.other_end.now))
