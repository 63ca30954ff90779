use Rattle.ssa_json.specs.View.{view}
use Rattle.ssa_model.proofs.SameValues.{same_json-decides}
use Rattle.ssa_json.proofs.value.Json.same.Goals as goal

pub returns-clause-value : goal.returns-clause-value
returns-clause-value c = rw c.same_values.ensures (same_json-decides (view c.args.self.now) (view c.args.other.now))
