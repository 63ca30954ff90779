use Rattle.ssa_model.proofs.RecordTakes.{fixes_target, fixes_record, leads_back, turns_twice, body_laws, table_laws, takes_by_parts}
use Rattle.ssa_model.proofs.records.takes_laws.Goals as goal

pub returns : goal.returns
returns c = record {
  target = fixes_target;
  steps = fixes_record;
  back = leads_back;
  twice = turns_twice;
  body = body_laws;
  table = table_laws;
  parts = takes_by_parts;
}
