use Rattle.ssa_turn_body.proofs.Telling.{leaf-told}
use Rattle.ssa_turn_body.proofs.told.leaf_turn_told.Goals as goal

pub returns : goal.returns
returns c = leaf-told
