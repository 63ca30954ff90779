use Rattle.ssa_model.proofs.ValidStates.{apply_keeps_valid, update_keeps_valid, strip_keeps_valid}
use Rattle.ssa_model.proofs.operations_keep_valid.Goals as goal

pub returns : goal.returns
returns c = record { apply = apply_keeps_valid; update = update_keeps_valid; strip = strip_keeps_valid }
