use Rattle.ssa_model.proofs.BodyLeads.{carry_answers, body_leads}
use Rattle.ssa_model.proofs.records.body_leads.Goals as goal

pub returns : goal.returns
returns c = record { answers = carry_answers; leads = body_leads }
