use Rattle.ssa_typed.proofs.OneSort.{bodies_alike}
use Rattle.ssa_typed.proofs.alike.bodies_are_alike.Goals as goal

pub returns : goal.returns
returns c = bodies_alike
