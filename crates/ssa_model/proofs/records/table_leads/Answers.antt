use Rattle.ssa_model.proofs.TableLeads.{set_leads, table_leads}
use Rattle.ssa_model.proofs.records.table_leads.Goals as goal

pub returns : goal.returns
returns c = record { set = set_leads; table = table_leads }
