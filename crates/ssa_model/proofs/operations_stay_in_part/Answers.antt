use Rattle.ssa_model.proofs.Outside.{apply_stays_in_part, update_stays_in_part}
use Rattle.ssa_model.proofs.operations_stay_in_part.Goals as goal

pub returns : goal.returns
returns c = record { apply = apply_stays_in_part; update = update_stays_in_part }
