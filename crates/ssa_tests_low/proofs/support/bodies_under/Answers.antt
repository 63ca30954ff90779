use Rattle.ssa_typed.proofs.OneSort.{bodies_alike}
use Rattle.ssa_tests_low.proofs.support.bodies_under.Goals as goal

-- both are of the schema's kind
pub returns : goal.returns
returns c = bodies_alike c.args.schema.now.kind c.in_ok-first.first c.in_ok-second.second c.in_ok-first.ensures c.in_ok-second.ensures
