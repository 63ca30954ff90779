use Rattle.std.proofs.Common.{Err, sym, subst}
use Rattle.ssa_model.specs.definitions.Files.{schema_of_file}
use Rattle.ssa_model.specs.definitions.Schema.{Schema}
use Rattle.ssa_json.specs.Readings.{readings}
use Rattle.ssa_json.specs.View.{view}
use Rattle.ssa_session.specs.Files.{IsGivenFile}
use Rattle.ssa_session.specs.declared.files.FileFault.{FileFault}
use Rattle.ssa_session.proofs.FileFacts.{schema-refused}
use Rattle.ssa_session.proofs.files.schema_of.Goals as goal

pub returns-in-Err-read : goal.returns-in-Err-read
returns-in-Err-read c =
    let bytes = c.args.bytes.now in
    let given : FileFault → Type 0 = λ f. IsGivenFile {A = Schema} (Err f) (schema_of_file readings bytes) in
    subst given (sym c.from.ensures) (schema-refused c.in-Err-read.fault bytes (view c.in-Ok.value) c.in-Ok.ensures c.in-Err-read.ensures)
