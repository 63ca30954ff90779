use Rattle.ssa_model.proofs.RecordedTaken.{recorded_files_are_taken}
use Rattle.ssa_model.proofs.RecordedWritten.{taken_is_recorded_text}
use Rattle.ssa_model.proofs.RecordedFaults.{misfit_is_refused, moves_have_shape}
use Rattle.ssa_model.proofs.records.recorded_files.Goals as goal

pub returns : goal.returns
returns c = record { taken = recorded_files_are_taken; text = taken_is_recorded_text; misfit = misfit_is_refused; shape = moves_have_shape }
