use Rattle.std.proofs.Common.{refl}
use Rattle.ssa_model.proofs.RecordedFiled.{recorded_moves_are_met}
use Rattle.ssa_model.proofs.records.recorded_files_are_worked.Goals as goal

pub returns : goal.returns
returns c = record { written = (refl, refl); taken = (refl, refl, refl, refl, refl); moves = recorded_moves_are_met }
