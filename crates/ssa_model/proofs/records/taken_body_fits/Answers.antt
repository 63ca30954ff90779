use Rattle.ssa_model.proofs.TakenBodies.{taken_body_fits}
use Rattle.ssa_model.proofs.records.taken_body_fits.Goals as goal

pub returns : goal.returns
returns c = taken_body_fits
