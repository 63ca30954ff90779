use Rattle.ssa_model.proofs.FittingTells.{fitting_body_leads}
use Rattle.ssa_model.proofs.records.fitting_body_leads.Goals as goal

pub returns : goal.returns
returns c = fitting_body_leads
