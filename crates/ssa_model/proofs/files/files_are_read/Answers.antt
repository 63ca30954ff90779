use Rattle.ssa_model.proofs.LineByLine.{files_are_read}
use Rattle.ssa_model.proofs.files.files_are_read.Goals as goal

pub returns : goal.returns
returns c = files_are_read
