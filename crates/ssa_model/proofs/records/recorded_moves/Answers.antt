use Rattle.ssa_model.proofs.RecordedMoves.{line_is_move, shapeless_is_no_move, misfit_is_told, line_of_parts}
use Rattle.ssa_model.proofs.records.recorded_moves.Goals as goal

pub returns : goal.returns
returns c = record { line = line_is_move; shapeless = shapeless_is_no_move; misfit = misfit_is_told; parts = line_of_parts }
