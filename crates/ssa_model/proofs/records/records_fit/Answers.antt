use Rattle.ssa_model.proofs.FittingRows.{records-fit, body-records-fit}
use Rattle.ssa_model.proofs.records.records_fit.Goals as goal

pub returns : goal.returns
returns c = record { states = records-fit; bodies = body-records-fit }
