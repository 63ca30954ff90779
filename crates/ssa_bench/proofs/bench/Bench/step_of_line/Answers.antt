use Rattle.std.proofs.Common.{◌≡◌, ◌&&◌, Some, option_map, ap, sym, subst, ◌∙◌}
use Rattle.std.specs.Prelude.{Ok, codes}
use Rattle.ssa_model.specs.definitions.Answers.{file_state}
use Rattle.ssa_model.specs.definitions.BenchText.{step_json}
use Rattle.ssa_model.specs.definitions.Commands.{value_in}
use Rattle.ssa_model.specs.definitions.History as model
use Rattle.ssa_model.specs.definitions.History.{present}
use Rattle.ssa_model.specs.definitions.Json.{compact, member_at, same_text}
use Rattle.ssa_model.specs.definitions.BenchOfStates.{given_if, keeps_order, label_in, object_in}
use Rattle.ssa_json.specs.Readings.{readings}
use Rattle.ssa_json.specs.View.{view}
use Rattle.ssa_merge.specs.States.{state_view}
use Rattle.ssa_turn.specs.Histories.{label_view}
use Rattle.ssa_bench.proofs.ToldInFormat.{step-said, step-told, step-untold}
use Rattle.ssa_bench.proofs.bench.Bench.step_of_line.Goals as goal

pub returns-then-not-is_main-clause-taken : goal.returns-then-not-is_main-clause-taken
returns-then-not-is_main-clause-taken c =
    let v = view c.args.line.value in
    let bench = c.args.self.now in
    let before = present bench.timeline in
    let label = label_view c.in-Some.label in
    let state = state_view c.in-Ok.state in
    let said : label_in readings (value_in (member_at (codes "command") v)) ≡ Some label = sym c.in_ok-label.ensures ∙ ap (option_map label_view) c.in-Some.is in
    let made : file_state readings bench.schema.kind (object_in v) ≡ Ok state = ap (file_state readings bench.schema.kind) (sym c.object_in.ensures)
    ∙ subst (λ (b : model.Bench). file_state readings b.schema.kind (view c.object_in.result) ≡ Ok state) c.self.view_is c.in-Ok.ensures.given in
    step-said bench before v label state said made ∙ step-untold bench before v label state (sym c.is_main.ensures ∙ c.if-not-is_main.true)

pub returns-in-Ok-clause-taken : goal.returns-in-Ok-clause-taken
returns-in-Ok-clause-taken c =
    let v = view c.args.line.value in
    let bench = c.args.self.now in
    let before = present bench.timeline in
    let label = label_view c.in-Some.label in
    let state = state_view c.in-Ok.state in
    let step : model.Step = record { label = label; state = state } in
    let kept = keeps_order before.table state.table in
    let said : label_in readings (value_in (member_at (codes "command") v)) ≡ Some label = sym c.in_ok-label.ensures ∙ ap (option_map label_view) c.in-Some.is in
    let made : file_state readings bench.schema.kind (object_in v) ≡ Ok state = ap (file_state readings bench.schema.kind) (sym c.object_in.ensures)
    ∙ subst (λ (b : model.Bench). file_state readings b.schema.kind (view c.object_in.result) ≡ Ok state) c.self.view_is c.in-Ok.ensures.given in
    let written = ap (λ t. same_text (compact (step_json bench step)) t && kept) (sym (c.deref.ensures.value ∙ c.requires))
    ∙ sym c.in_ok-is_next_line-in-Ok.ensures ∙ c.if-branch.false in
    step-said bench before v label state said made ∙ step-told bench before v label state (sym c.is_main.ensures ∙ c.if-not-is_main.false)
    ∙ ap (λ own. given_if own step) written
