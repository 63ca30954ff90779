use Rattle.ssa_model.proofs.RecordTurns.{body_turns, table_turns, record_turns}
use Rattle.ssa_model.proofs.records.record_turns.Goals as goal

pub returns : goal.returns
returns c = record { body = body_turns; table = table_turns; state = record_turns }
