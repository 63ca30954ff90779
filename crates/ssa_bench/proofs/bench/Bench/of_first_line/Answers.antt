use Rattle.std.proofs.Common.{ap, sym, ◌∙◌}
use Rattle.ssa_model.specs.definitions.Answers.{bench_of}
use Rattle.ssa_model.specs.definitions.BenchText.{first_json}
use Rattle.ssa_model.specs.definitions.Formats.{is_main_state}
use Rattle.ssa_model.specs.definitions.History.{present}
use Rattle.ssa_model.specs.definitions.Json.{compact, same_text}
use Rattle.ssa_model.specs.definitions.Limits.{most_past}
use Rattle.ssa_model.specs.definitions.BenchOfStates.{given_if, lone_in}
use Rattle.ssa_json.specs.Readings.{readings}
use Rattle.ssa_json.specs.View.{view}
use Rattle.ssa_model.proofs.LoneBenches.{lone-parts}
use Rattle.ssa_lines.specs.declared.loading.LoadFault.TheVariants.{OutOfMemory}
use Rattle.ssa_bench.specs.Taking.{IsTaken}
use Rattle.ssa_bench.proofs.LoadedParts.{fault-handed}
use Rattle.ssa_bench.proofs.ToldInFormat.{lone-told, lone-untold}
use Rattle.ssa_bench.proofs.bench.Bench.of_first_line.Goals as goal

pub returns-then-branch-clause-lone : goal.returns-then-branch-clause-lone
returns-then-branch-clause-lone c = (lone-parts readings most_past c.args.schema (view c.object_in.result) c.in-Ok.bench c.in-Ok.ensures).alone

pub returns-then-branch-clause-depth : goal.returns-then-branch-clause-depth
returns-then-branch-clause-depth c = sym (lone-parts readings most_past c.args.schema (view c.object_in.result) c.in-Ok.bench c.in-Ok.ensures).depth_is

pub is_first_line-requires : goal.is_first_line-requires
is_first_line-requires c = (lone-parts readings most_past c.args.schema (view c.object_in.result) c.in-Ok.bench c.in-Ok.ensures).alone

pub returns-in_err-is_first_line-in-Ok-clause-taken : goal.returns-in_err-is_first_line-in-Ok-clause-taken
returns-in_err-is_first_line-in-Ok-clause-taken c =
    fault-handed c.from_residual.result OutOfMemory (λ r. IsTaken r (lone_in readings c.args.schema (view c.args.line.value)))
    c.from_residual.ensures.1 tt

pub returns-then-not-has_main_managers-clause-taken : goal.returns-then-not-has_main_managers-clause-taken
returns-then-not-has_main_managers-clause-taken c =
    let bench = c.in-Ok.bench in
    let made = ap (bench_of readings c.args.schema) (sym c.object_in.ensures) ∙ c.in-Ok.ensures in
    let alone = (lone-parts readings most_past c.args.schema (view c.object_in.result) bench c.in-Ok.ensures).alone in
    lone-untold c.args.schema (view c.args.line.value) bench made
    (ap is_main_state (sym (ap present alone)) ∙ sym c.has_main_managers.ensures ∙ c.if-not-has_main_managers.true)

pub returns-then-branch-clause-taken : goal.returns-then-branch-clause-taken
returns-then-branch-clause-taken c =
    let bench = c.in-Ok.bench in
    let made = ap (bench_of readings c.args.schema) (sym c.object_in.ensures) ∙ c.in-Ok.ensures in
    let alone = (lone-parts readings most_past c.args.schema (view c.object_in.result) bench c.in-Ok.ensures).alone in
    let text = ap (same_text (compact (first_json bench))) (sym (c.deref.ensures.value ∙ c.requires)) in
    lone-told c.args.schema (view c.args.line.value) bench made
    (ap is_main_state (sym (ap present alone)) ∙ sym c.has_main_managers.ensures ∙ c.if-not-has_main_managers.false)
    ∙ ap (λ own. given_if own bench) (text ∙ sym c.in_ok-is_first_line-in-Ok.ensures ∙ c.if-branch.true)
