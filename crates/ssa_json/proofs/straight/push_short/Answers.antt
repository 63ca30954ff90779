use Rattle.std.proofs.Common.{◌∙◌, ap}
use Rattle.json.specs.Reads.{token_of}
use Rattle.ssa_model.specs.definitions.Json as model
use Rattle.ssa_json.specs.declared.value.Json.{Json}
use Rattle.ssa_json.specs.declared.value.Scalar.TheVariants.{Text}
use Rattle.ssa_json.proofs.Views.{view-Scalar}
use Rattle.ssa_json.proofs.straight.push_short.Goals as goal

pub returns-clause-pushed : goal.returns-clause-pushed
returns-clause-pushed c = λ _.
    let text = c.in-Some-short.text in
    let seen = view-Scalar (Text text) ∙ ap (λ t. model.scalar (model.text t)) c.in-Some-short.ensures.some in
    let is = ap token_of c.in-String.is in
    ((c.in-Some.key, Json.Scalar (Text text)), c.in_ok-push.ensures.items, c.in-Some.ensures.some, c.in-String.text.now, is, seen)
