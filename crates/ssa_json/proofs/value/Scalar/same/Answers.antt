use Rattle.std.proofs.Common.{◌≡◌, rules}
use Rattle.ssa_model.specs.definitions.Json.{same_scalar}
use Rattle.ssa_json.specs.View.{scalar_view}
use Rattle.ssa_model.proofs.Scalars.{same_scalar-decides}
use Rattle.ssa_json.proofs.SameTexts.{by_bytes}
use Rattle.ssa_json.proofs.value.Scalar.same.Goals as goal

pub returns-in-Text-Text-clause-value : goal.returns-in-Text-Text-clause-value
returns-in-Text-Text-clause-value c =
    let test : c.is_same.result ≡ same_scalar (scalar_view c.args.self.now) (scalar_view c.args.other.now) = search (rules, by_bytes) in
    rw test (same_scalar-decides (scalar_view c.args.self.now) (scalar_view c.args.other.now))
