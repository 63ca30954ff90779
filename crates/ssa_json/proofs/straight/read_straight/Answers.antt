use Rattle.std.proofs.Common.{◌∙◌, ap, sym}
use Rattle.serde_json.specs.Read.{read}
use Rattle.ssa_json.specs.View.{view}
use Rattle.ssa_json.specs.Written.{data_of}
use Rattle.ssa_json.proofs.Converting.{json_reading-data}
use Rattle.ssa_json.proofs.ReadingBack.{value_of-data_of}
use Rattle.ssa_json.proofs.straight.read_straight.Goals as goal

pub returns-in-Ok-read_whole-clause-value : goal.returns-in-Ok-read_whole-clause-value
returns-in-Ok-read_whole-clause-value c =
    let v = view c.in-Ok-read_whole.value in
    let text = c.in-Ok.ensures.cases in
    json_reading-data c.args.bytes.now (data_of v) text.1 (ap read (sym text.0) ∙ c.in-Ok-read_whole.ensures.ok)
    ∙ value_of-data_of v c.in-Ok-read_whole.ensures.narrow
