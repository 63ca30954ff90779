use Rattle.ssa_turn_body.proofs.BackAgain.{bodies-back}
use Rattle.ssa_turn_body.proofs.told.turns_lead_back.Goals as goal

pub returns : goal.returns
returns c = bodies-back
