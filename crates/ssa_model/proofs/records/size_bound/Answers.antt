use Rattle.ssa_model.proofs.RecordSizes.{body_bound, table_bound, size_bound}
use Rattle.ssa_model.proofs.records.size_bound.Goals as goal

pub returns : goal.returns
returns c = record { body = body_bound; table = table_bound; state = size_bound }
