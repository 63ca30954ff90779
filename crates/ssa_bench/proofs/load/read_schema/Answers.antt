use Rattle.ssa_json.specs.View.{view}
use Rattle.ssa_model.specs.definitions.BenchOfStates.{schema_in}
use Rattle.ssa_bench.specs.Loading.{ReadsPart}
use Rattle.ssa_bench.proofs.LoadedParts.{part-read, part-unread, fault-handed, taken-no-io}
use Rattle.ssa_bench.proofs.load.read_schema.Goals as goal

pub returns-in_err-line-clause-read : goal.returns-in_err-line-clause-read
returns-in_err-line-clause-read g c =
    let fault = c.in_err-line.field-0.0 in
    let told = ReadsPart schema_in (g.R.Source.remaining c.args.reader.now) (g.R.Source.remaining c.next_line.new.reader) c.args.room.now
    c.next_line.new.room in
    fault-handed c.from_residual.result fault told c.from_residual.ensures.1 (part-unread schema_in _ _ _ _ fault c.in_err-line.ensures.read)

pub returns-clause-read : goal.returns-clause-read
returns-clause-read g c = part-read schema_in _ _ _ _ c.in_ok-line.line c.schema_of.result c.in_ok-line.ensures.read c.schema_of.ensures

pub returns-clause-failed : goal.returns-clause-failed
returns-clause-failed g c = λ e. absurd (taken-no-io c.schema_of.result (schema_in (view c.in_ok-line.line.value)) c.schema_of.ensures e)
