use Rattle.ssa_turn_body.proofs.Telling.{marks-tell}
use Rattle.ssa_turn_body.proofs.told.marks_tell_contents.Goals as goal

pub returns : goal.returns
returns c = marks-tell
