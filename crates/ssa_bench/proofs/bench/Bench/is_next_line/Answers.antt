use Rattle.std.proofs.Common.{◌≡◌, Bool, ◌&&◌, ap, sym, ◌∙◌}
use Rattle.ssa_model.specs.definitions.BenchText.{state_json, whole_object}
use Rattle.ssa_model.specs.definitions.History as model
use Rattle.ssa_model.specs.definitions.History.{present}
use Rattle.ssa_model.specs.definitions.Json.{compact, same_text}
use Rattle.ssa_model.specs.definitions.Operations.{State}
use Rattle.ssa_model.specs.definitions.BenchOfStates.{keeps_order}
use Rattle.ssa_merge.specs.States.{state_view}
use Rattle.ssa_bench.proofs.bench.Bench.is_next_line.Goals as goal

pub returns-then-not-branch : goal.returns-then-not-branch
returns-then-not-branch c =
    let to = state_view c.args.step.now.state in
    let kept = keeps_order (present c.args.self.now.timeline).table to.table in
    let whole = c.in_ok-object.ensures ∙ ap (λ (b : model.Bench). whole_object b to) c.self.view_is in
    let told = c.in_ok-is_line_of.ensures ∙ (λ i. same_text (compact (state_json (c.in_ok-command.ensures i) (whole i))) c.args.text.now) in
    sym (ap (λ (b : Bool). b && kept) (sym told ∙ c.if-not-branch.true))

pub returns : goal.returns
returns c =
    let to = state_view c.args.step.now.state in
    let kept = keeps_order (present c.args.self.now.timeline).table to.table in
    let whole = c.in_ok-object.ensures ∙ ap (λ (b : model.Bench). whole_object b to) c.self.view_is in
    let told = c.in_ok-is_line_of.ensures ∙ (λ i. same_text (compact (state_json (c.in_ok-command.ensures i) (whole i))) c.args.text.now) in
    let before = c.present-before.ensures ∙ ap (λ (b : model.Bench). present b.timeline) c.self.view_is in
    c.same_order.ensures ∙ ap (λ (n : State). keeps_order n.table to.table) before
    ∙ sym (ap (λ (b : Bool). b && kept) (sym told ∙ c.if-not-branch.false))
