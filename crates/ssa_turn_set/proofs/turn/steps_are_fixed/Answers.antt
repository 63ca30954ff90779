use Rattle.ssa_turn_set.proofs.Turning.{steps-are-fixed}
use Rattle.ssa_turn_set.proofs.turn.steps_are_fixed.Goals as goal

pub returns : goal.returns
returns c = steps-are-fixed
