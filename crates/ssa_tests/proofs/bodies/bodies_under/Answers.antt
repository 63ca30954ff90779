use Rattle.ssa_typed.proofs.OneSort.{bodies_alike}
use Rattle.ssa_tests.proofs.bodies.bodies_under.Goals as goal

-- both are of the schema's kind
pub returns : goal.returns
returns c = bodies_alike c.args.schema.now.kind c.in_ok-before.before c.in_ok-after.after c.in_ok-before.ensures c.in_ok-after.ensures
