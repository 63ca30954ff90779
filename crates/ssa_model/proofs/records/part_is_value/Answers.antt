use Rattle.ssa_model.proofs.PartValues.{part_is_value}
use Rattle.ssa_model.proofs.records.part_is_value.Goals as goal

pub returns : goal.returns
returns c = part_is_value
