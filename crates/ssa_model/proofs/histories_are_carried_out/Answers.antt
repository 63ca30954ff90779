use Rattle.ssa_model.proofs.Effect.{histories_are_carried_out}
use Rattle.ssa_model.proofs.histories_are_carried_out.Goals as goal

pub returns : goal.returns
returns c = histories_are_carried_out
