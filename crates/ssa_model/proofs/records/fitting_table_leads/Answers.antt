use Rattle.ssa_model.proofs.FittingTables.{fitting_table_leads}
use Rattle.ssa_model.proofs.records.fitting_table_leads.Goals as goal

pub returns : goal.returns
returns c = fitting_table_leads
