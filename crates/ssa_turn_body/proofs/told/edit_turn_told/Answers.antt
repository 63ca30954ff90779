use Rattle.ssa_turn_body.proofs.Telling.{edit-told}
use Rattle.ssa_turn_body.proofs.told.edit_turn_told.Goals as goal

pub returns : goal.returns
returns c = edit-told
