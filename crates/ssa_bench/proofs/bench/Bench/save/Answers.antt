use Rattle.std.proofs.Common.{◌≡◌, ◌≤◌, ℕ, Bool, List, Option, length, true, sym, subst, ◌∙◌}
use Rattle.std.specs.Io.KnownBytes.{Appends}
use Rattle.ssa_model.specs.definitions.Limits.{most_bench_bytes}
use Rattle.ssa_model.specs.definitions.Json.{Text}
use Rattle.ssa_model.specs.definitions.BenchText.{depths}
use Rattle.ssa_model.specs.definitions.RecordedBench.{recorded_text}
use Rattle.ssa_json.specs.Devices.{AppendsPart}
use Rattle.ssa_json.specs.Readings.{readings}
use Rattle.ssa_lines.specs.Saving.{NotSaved}
use Rattle.ssa_lines.specs.declared.saving.SaveFault.TheVariants.{Io}
use Rattle.ssa_model.proofs.Results.{handed-on}
use Rattle.ssa_bench.proofs.SavedBench.{is-file, source-names}
use Rattle.ssa_bench.proofs.bench.Bench.save.Goals as goal

broken_off : {S : Type 0} (contents : S → Option (List ℕ)) (has_failed : S → Bool) (old new : S) (written text : Text) → written ≡ text
    → length written ≤ most_bench_bytes
    → AppendsPart (contents old) (contents new) written → has_failed new ≡ true → NotSaved contents has_failed old new text Io
broken_off contents has_failed old new written text is fits part failed =
    subst (λ (t : Text). NotSaved contents has_failed old new t Io) is (part, (fits, failed))

pub returns-in_err-write_text-clause-refused : goal.returns-in_err-write_text-clause-refused
returns-in_err-write_text-clause-refused g c =
    let whole = c.deref.ensures.value ∙ c.in_ok-text.ensures.ok in
    handed-on c.from_residual-in_err-write_text.result Io _ c.from_residual-in_err-write_text.ensures.1
    (broken_off g.S.Sink.contents g.S.Sink.has_failed c.args.sink.now c.write_text.new.sink c.deref.result.now (recorded_text depths c.args.self.now) whole
    (subst (λ (t : Text). length t ≤ most_bench_bytes) (sym c.deref.ensures.value) c.in_ok-text.ensures.fits) c.in_err-write_text.ensures.err
    c.in_err-write_text.ensures.failed)

pub returns-clause-ok : goal.returns-clause-ok
returns-clause-ok g c =
    let whole = c.deref.ensures.value ∙ c.in_ok-text.ensures.ok in
    subst (Appends (g.S.Sink.contents c.args.sink.now) (g.S.Sink.contents c.write_text.new.sink)) whole c.in_ok-write_text.ensures.ok

pub returns-clause-file : goal.returns-clause-file
returns-clause-file g c =
    let bench = c.args.self.now in
    let made = c.in_ok-text.ensures.of_program in
    is-file bench c.compact_is_read.ensures
    (c.recorded_values_are_shallow.ensures.recorded readings depths bench c.is_valid.ensures
    (c.rising_names_are_distinct.ensures bench.schema.source (source-names bench made)))
    c.is_valid.ensures c.paths_are_read.ensures made
    (subst (λ (t : Text). length t ≤ most_bench_bytes) c.in_ok-text.ensures.ok c.in_ok-text.ensures.fits)
