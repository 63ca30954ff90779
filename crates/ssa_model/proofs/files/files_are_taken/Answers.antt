use Rattle.ssa_model.proofs.FormatFiles.{files_are_taken, taken_is_file}
use Rattle.ssa_model.proofs.files.files_are_taken.Goals as goal

pub returns : goal.returns
returns c = record { taken = files_are_taken; file = taken_is_file }
