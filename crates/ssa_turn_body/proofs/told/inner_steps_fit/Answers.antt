use Rattle.ssa_turn_body.proofs.InnerFirst.{inner-steps-fit}
use Rattle.ssa_turn_body.proofs.told.inner_steps_fit.Goals as goal

pub returns : goal.returns
returns c = inner-steps-fit
