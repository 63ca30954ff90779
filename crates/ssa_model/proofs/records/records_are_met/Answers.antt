use Rattle.std.proofs.Common.{refl}
use Rattle.ssa_model.proofs.FiledBench.{first-valid, applied-valid}
use Rattle.ssa_model.proofs.records.records_are_met.Goals as goal

pub returns : goal.returns
returns c = (first-valid, applied-valid, refl)
