-- The text is the opening, the past's lines and the future's.
use Rattle.std.proofs.Common.{[], ◌++◌, flat_map, ap, subst, ◌∙◌, append_assoc}
use Rattle.std.proofs.lemmas.List.Elements.{All-append}
use Rattle.std.specs.List.{All}
use Rattle.ssa_model.specs.definitions.BenchText.{depths, line}
use Rattle.ssa_json.specs.Writable.{IsOfProgram}
use Rattle.ssa_file.specs.Recording.{bench_of, bench_with, future_values, opening_values, past_values}
use Rattle.ssa_lines.specs.Saving.{CannotHold}
use Rattle.ssa_file.proofs.RecordingFacts.{texts-are, values-are}
use Rattle.ssa_model.proofs.Results.{handed-on}
use Rattle.ssa_lines.proofs.SavingFacts.{lines-refused}
use Rattle.ssa_file.proofs.recording.recorded_text.Goals as goal

pub returns-in_err-text-clause-refused : goal.returns-in_err-text-clause-refused
returns-in_err-text-clause-refused c =
    let bench = bench_with c.args.schema.now c.args.identity.now c.args.history.now in
    let deep = bench_of c.args.schema.now c.args.identity.now c.args.depth.now c.args.history.now in
    let front = opening_values depths deep in
    let back = past_values bench in
    let on = future_values bench in
    let fault = c.in_err-text.field-0.0 in
    handed-on c.from_residual.result fault _ c.from_residual.ensures.1
    (lines-refused fault [] (flat_map line front) (flat_map line back ++ flat_map line on) _ (texts-are c.args.schema.now c.args.identity.now c.args.depth.now c.args.history.now) c.in_err-text.ensures.refused)

pub returns-in_err-push_past-clause-refused : goal.returns-in_err-push_past-clause-refused
returns-in_err-push_past-clause-refused c =
    let bench = bench_with c.args.schema.now c.args.identity.now c.args.history.now in
    let deep = bench_of c.args.schema.now c.args.identity.now c.args.depth.now c.args.history.now in
    let front = opening_values depths deep in
    let back = past_values bench in
    let on = future_values bench in
    let fault = c.in_err-push_past.field-0.0 in
    let opening = c.in_ok-text.ensures.ok in
    let whole = ap (λ t. t ++ (flat_map line back ++ flat_map line on)) opening ∙ texts-are c.args.schema.now c.args.identity.now c.args.depth.now c.args.history.now in
    handed-on c.from_residual-in_err-push_past.result fault _ c.from_residual-in_err-push_past.ensures.1
    (lines-refused fault c.in_ok-text.text.items (flat_map line back) (flat_map line on) _ whole c.in_err-push_past.ensures.refused)

pub returns-in_err-push_future-clause-refused : goal.returns-in_err-push_future-clause-refused
returns-in_err-push_future-clause-refused c =
    let bench = bench_with c.args.schema.now c.args.identity.now c.args.history.now in
    let deep = bench_of c.args.schema.now c.args.identity.now c.args.depth.now c.args.history.now in
    let front = opening_values depths deep in
    let back = past_values bench in
    let on = future_values bench in
    let fault = c.in_err-push_future.field-0.0 in
    let so_far = c.in_ok-push_past.ensures.ok ∙ ap (λ t. t ++ flat_map line back) c.in_ok-text.ensures.ok in
    let whole = ap (λ t. t ++ flat_map line on) so_far ∙ append_assoc (flat_map line front) (flat_map line back) (flat_map line on) ∙ texts-are c.args.schema.now c.args.identity.now c.args.depth.now c.args.history.now in
    handed-on c.from_residual-in_err-push_future.result fault _ c.from_residual-in_err-push_future.ensures.1
    (subst (CannotHold fault) whole c.in_err-push_future.ensures.refused)

pub returns-clause-ok : goal.returns-clause-ok
returns-clause-ok c =
    let bench = bench_with c.args.schema.now c.args.identity.now c.args.history.now in
    let deep = bench_of c.args.schema.now c.args.identity.now c.args.depth.now c.args.history.now in
    let front = opening_values depths deep in
    let back = past_values bench in
    let on = future_values bench in
    let so_far = c.in_ok-push_past.ensures.ok ∙ ap (λ t. t ++ flat_map line back) c.in_ok-text.ensures.ok in
    c.in_ok-push_future.ensures.ok
    ∙ ap (λ t. t ++ flat_map line on) so_far ∙ append_assoc (flat_map line front) (flat_map line back) (flat_map line on) ∙ texts-are c.args.schema.now c.args.identity.now c.args.depth.now c.args.history.now

pub returns-clause-of_program : goal.returns-clause-of_program
returns-clause-of_program c =
    let bench = bench_with c.args.schema.now c.args.identity.now c.args.history.now in
    let deep = bench_of c.args.schema.now c.args.identity.now c.args.depth.now c.args.history.now in
    subst (All IsOfProgram) (values-are c.args.schema.now c.args.identity.now c.args.depth.now c.args.history.now)
    (All-append IsOfProgram (opening_values depths deep) _ c.in_ok-text.ensures.of_program
    (All-append IsOfProgram (past_values bench) (future_values bench) c.in_ok-push_past.ensures.of_program c.in_ok-push_future.ensures.of_program))
