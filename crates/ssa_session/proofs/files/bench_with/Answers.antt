use Rattle.std.proofs.Common.{Err, sym, subst}
use Rattle.ssa_model.specs.definitions.Files.{bench_with_file}
use Rattle.ssa_model.specs.definitions.History.{Bench}
use Rattle.ssa_json.specs.Readings.{readings}
use Rattle.ssa_json.specs.View.{view}
use Rattle.ssa_session.specs.Files.{IsGivenFile}
use Rattle.ssa_session.specs.declared.files.FileFault.{FileFault}
use Rattle.ssa_session.proofs.FileFacts.{object-refused}
use Rattle.ssa_session.proofs.files.bench_with.Goals as goal

pub returns-in-Err-with_depth : goal.returns-in-Err-with_depth
returns-in-Err-with_depth c =
    let depth = c.args.depth in
    let schema = c.args.schema in
    let bytes = c.args.bytes.now in
    let given : FileFault → Type 0 = λ f. IsGivenFile {A = Bench} (Err f) (bench_with_file readings depth schema bytes) in
    subst given (sym c.from.ensures) (object-refused c.in-Err-with_depth.fault depth schema bytes (view c.in-Ok.value) c.in-Ok.ensures c.in-Err-with_depth.ensures)
