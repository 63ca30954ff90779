use Rattle.std.proofs.Common.{ap, sym, ◌∙◌}
use Rattle.ssa_model.specs.definitions.BenchText.{whole_object}
use Rattle.ssa_model.specs.definitions.Formats.{can_tell_state}
use Rattle.ssa_model.specs.definitions.History.{present}
use Rattle.ssa_model.specs.definitions.Json.{compact, same_text}
use Rattle.ssa_model.specs.definitions.BenchOfStates.{given_if}
use Rattle.ssa_model.proofs.LoneBenches.{lone-parts}
use Rattle.ssa_model.specs.definitions.BenchOfRecords.{present_in}
use Rattle.ssa_json.specs.Readings.{readings}
use Rattle.ssa_json.specs.View.{view}
use Rattle.ssa_file.specs.Recording.{format_view}
use Rattle.ssa_lines.specs.declared.loading.LoadFault.TheVariants.{OutOfMemory}
use Rattle.ssa_bench.specs.Taking.{IsTaken}
use Rattle.ssa_bench.proofs.LoadedParts.{fault-handed}
use Rattle.ssa_bench.proofs.ToldInFormat.{present-told, present-untold}
use Rattle.ssa_bench.proofs.bench.Bench.of_present_line.Goals as goal

pub returns-then-branch-clause-lone : goal.returns-then-branch-clause-lone
returns-then-branch-clause-lone c = (lone-parts readings c.args.counts.now.depth c.args.schema (view c.args.line.value) c.in-Ok.bench c.in-Ok.ensures).alone

pub returns-then-branch-clause-depth : goal.returns-then-branch-clause-depth
returns-then-branch-clause-depth c =
    sym (lone-parts readings c.args.counts.now.depth c.args.schema (view c.args.line.value) c.in-Ok.bench c.in-Ok.ensures).depth_is

pub is_present_line-requires : goal.is_present_line-requires
is_present_line-requires c = (lone-parts readings c.args.counts.now.depth c.args.schema (view c.args.line.value) c.in-Ok.bench c.in-Ok.ensures).alone

pub returns-in_err-is_present_line-in-Ok-clause-taken : goal.returns-in_err-is_present_line-in-Ok-clause-taken
returns-in_err-is_present_line-in-Ok-clause-taken c =
    fault-handed c.from_residual.result OutOfMemory (λ r. IsTaken r (present_in readings (format_view c.args.counts.now.format) c.args.counts.now.depth c.args.schema (view c.args.line.value)))
    c.from_residual.ensures.1 tt

pub returns-then-not-is_of_format-clause-taken : goal.returns-then-not-is_of_format-clause-taken
returns-then-not-is_of_format-clause-taken c =
    let f = format_view c.args.counts.now.format in
    let bench = c.in-Ok.bench in
    let alone = (lone-parts readings c.args.counts.now.depth c.args.schema (view c.args.line.value) bench c.in-Ok.ensures).alone in
    present-untold f c.args.counts.now.depth c.args.schema (view c.args.line.value) bench c.in-Ok.ensures
    (ap (can_tell_state f) (sym (ap present alone)) ∙ sym c.is_of_format.ensures ∙ c.if-not-is_of_format.true)

pub returns-then-branch-clause-taken : goal.returns-then-branch-clause-taken
returns-then-branch-clause-taken c =
    let f = format_view c.args.counts.now.format in
    let bench = c.in-Ok.bench in
    let alone = (lone-parts readings c.args.counts.now.depth c.args.schema (view c.args.line.value) bench c.in-Ok.ensures).alone in
    let text = ap (same_text (compact (whole_object bench bench.timeline.first))) (sym (c.deref.ensures.value ∙ c.requires)) in
    present-told f c.args.counts.now.depth c.args.schema (view c.args.line.value) bench c.in-Ok.ensures
    (ap (can_tell_state f) (sym (ap present alone)) ∙ sym c.is_of_format.ensures ∙ c.if-not-is_of_format.false)
    ∙ ap (λ own. given_if own bench) (text ∙ sym c.in_ok-is_present_line-in-Ok.ensures ∙ c.if-branch.true)
