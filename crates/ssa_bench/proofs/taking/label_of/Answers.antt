use Rattle.std.proofs.Common.{◌≡◌, Some, true, false, ap, sym, ◌∙◌, option_map}
use Rattle.ssa_model.specs.definitions.Json.{compact, same_text}
use Rattle.ssa_model.specs.definitions.Replies.{label_json}
use Rattle.ssa_model.specs.definitions.BenchOfStates.{label_in}
use Rattle.ssa_json.specs.Readings.{readings}
use Rattle.ssa_json.specs.View.{view}
use Rattle.ssa_turn.specs.Histories.{label_view}
use Rattle.ssa_bench.proofs.TakenLines.{said-written}
use Rattle.ssa_bench.proofs.taking.label_of.Goals as goal

pub returns-then-branch : goal.returns-then-branch
returns-then-branch c =
    let v = view c.args.value.now in
    let l = label_view c.in-Some.label in
    let said : label_in readings v ≡ Some l = sym c.in_ok-label.ensures ∙ ap (option_map label_view) c.in-Some.is in
    let is : true ≡ same_text (compact (label_json l)) (compact v) =
    sym c.if-branch.true ∙ c.in_ok-is_text_of.ensures ∙ (λ i. same_text (compact (c.in_ok-written.ensures i))
    ((c.deref.ensures.value ∙ c.in_ok-text.ensures.text) i)) in
    sym (said-written v l true said is)

pub returns-else-branch : goal.returns-else-branch
returns-else-branch c =
    let v = view c.args.value.now in
    let l = label_view c.in-Some.label in
    let said : label_in readings v ≡ Some l = sym c.in_ok-label.ensures ∙ ap (option_map label_view) c.in-Some.is in
    let is : false ≡ same_text (compact (label_json l)) (compact v) =
    sym c.if-branch.false ∙ c.in_ok-is_text_of.ensures ∙ (λ i. same_text (compact (c.in_ok-written.ensures i))
    ((c.deref.ensures.value ∙ c.in_ok-text.ensures.text) i)) in
    sym (said-written v l false said is)
