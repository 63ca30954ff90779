use Rattle.ssa_turn_body.proofs.BackAgain.{tree-back}
use Rattle.ssa_turn_body.proofs.told.tree_turns_lead_back.Goals as goal

pub returns : goal.returns
returns c = tree-back
