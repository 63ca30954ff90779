use Rattle.std.proofs.Common.{◌≡◌, ◌∙◌, Ok, true, string_bytes, sym, subst}
use Rattle.ssa_model.specs.definitions.Files.{bench_with_file}
use Rattle.ssa_model.specs.definitions.History.{Bench}
use Rattle.ssa_model.specs.definitions.Json.{Text}
use Rattle.ssa_json.specs.Readings.{readings}
use Rattle.ssa_disk.specs.Files.{under}
use Rattle.ssa_program.specs.Outcome.{IsInput}
use Rattle.ssa_program.proofs.Calls.{made_of, new_done, new_stopped}
use Rattle.ssa_program.proofs.Stopping.{named_more}
use Rattle.ssa_program.specs.Trouble.{IsNamed}
use Rattle.std.proofs.lemmas.Result.{IfErr-weaker}
use Rattle.ssa_program.proofs.making.init.Goals as goal

pub returns-clause-done : goal.returns-clause-done
returns-clause-done g c =
    let files = g.D.Disk.view c.args.disk.now in
    let made = c.deref-4.result.now in
    let same : c.in_ok-made.made ≡ made = sym (c.deref-4.ensures ∙ c.new-made.ensures) in
    let is = λ (told : g.D.Disk.tells ≡ true). made_of files c.args.schema.now c.args.object.now c.args.depth
    c.deref.result.now c.in_ok-read.read c.deref-3.result.now made
    (subst (λ (bytes : Text). IsInput (under files c.args.schema.now) bytes) (sym c.deref.ensures.value) (c.in_ok-schema_bytes.ensures.read told))
    c.in_ok-read.ensures.read
    (subst (λ (bytes : Text). IsInput (under files c.args.object.now) bytes) (sym c.deref-3.ensures.value) (c.in_ok-object_bytes.ensures.read told))
    (subst (λ (b : Bench). bench_with_file readings c.args.depth c.in_ok-read.read c.deref-3.result.now ≡ Ok b) same c.in_ok-made.ensures.made) in
    new_done g.W.Sink.contents g.W.Sink.has_failed c.args.writer.now c.save_new.new.writer (g.D.Disk.tells ≡ true)
    c.args.schema.now c.args.object.now c.args.bench.now (string_bytes c.in_ok-place.place.name) c.args.depth
    files (g.D.Disk.view c.save_new.new.disk) made c.in_ok-place.ensures.own c.in_ok-place.ensures.place is
    c.save_new.result c.save_new.ensures.done

pub returns-clause-stopped : goal.returns-clause-stopped
returns-clause-stopped g c =
    let files = g.D.Disk.view c.args.disk.now in
    let made = c.deref-4.result.now in
    let same : c.in_ok-made.made ≡ made = sym (c.deref-4.ensures ∙ c.new-made.ensures) in
    let is = λ (told : g.D.Disk.tells ≡ true). made_of files c.args.schema.now c.args.object.now c.args.depth
    c.deref.result.now c.in_ok-read.read c.deref-3.result.now made
    (subst (λ (bytes : Text). IsInput (under files c.args.schema.now) bytes) (sym c.deref.ensures.value) (c.in_ok-schema_bytes.ensures.read told))
    c.in_ok-read.ensures.read
    (subst (λ (bytes : Text). IsInput (under files c.args.object.now) bytes) (sym c.deref-3.ensures.value) (c.in_ok-object_bytes.ensures.read told))
    (subst (λ (b : Bench). bench_with_file readings c.args.depth c.in_ok-read.read c.deref-3.result.now ≡ Ok b) same c.in_ok-made.ensures.made) in
    new_stopped g.W.Sink.contents g.W.Sink.has_failed c.args.writer.now c.save_new.new.writer (g.D.Disk.tells ≡ true)
    c.args.schema.now c.args.object.now c.args.bench.now (string_bytes c.in_ok-place.place.name) c.args.depth
    files (g.D.Disk.view c.save_new.new.disk) made c.in_ok-place.ensures.own c.in_ok-place.ensures.place is
    c.save_new.result c.save_new.ensures.stopped

pub returns-clause-named : goal.returns-clause-named
returns-clause-named g c =
    let bench = c.args.bench.now in
    let schema = c.args.schema.now in
    let object = c.args.object.now in
    IfErr-weaker c.save_new.result (IsNamed bench bench bench) (IsNamed bench schema object) (named_more bench schema object) c.save_new.ensures.named
