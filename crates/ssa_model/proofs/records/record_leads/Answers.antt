use Rattle.ssa_model.proofs.RecordTakes.{record_leads}
use Rattle.ssa_model.proofs.records.record_leads.Goals as goal

pub returns : goal.returns
returns c = record_leads
