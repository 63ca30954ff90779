use Rattle.ssa_turn_set.proofs.Turning.{leads-back}
use Rattle.ssa_turn_set.proofs.turn.leads_back.Goals as goal

pub returns : goal.returns
returns c = leads-back
