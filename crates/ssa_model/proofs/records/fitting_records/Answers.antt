use Rattle.ssa_model.proofs.FittingStates.{fitting_leads, taken_fits}
use Rattle.ssa_model.proofs.records.fitting_records.Goals as goal

pub returns : goal.returns
returns c = record { leads = fitting_leads; taken = taken_fits }
