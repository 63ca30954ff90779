use Rattle.std.proofs.Common.{arith}
use Rattle.std.proofs.lemmas.Bool.{false≢true}
use Rattle.serde_json.specs.View.{view as data_view}
use Rattle.ssa_json.proofs.Converting.{json_reading-none, Answers-converted}
use Rattle.ssa_json.proofs.value.Json.read_in.Goals as goal

pub returns-in-Ok-clause-answers : goal.returns-in-Ok-clause-answers
returns-in-Ok-clause-answers c =
    Answers-converted c.converted.result c.args.bytes.now c.args.most (data_view c.in-Ok.value) (omega arith) c.in-Ok.ensures.ok.0 c.in-Ok.ensures.ok.1
    c.converted.ensures

pub returns-in-Err-2-clause-answers : goal.returns-in-Err-2-clause-answers
returns-in-Err-2-clause-answers c =
    (omega arith, json_reading-none c.args.bytes.now (c.in-Err.ensures.err (λ memory. false≢true (c.if-is_memory.ensures.1 memory))))
