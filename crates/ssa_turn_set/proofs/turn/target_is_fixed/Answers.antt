use Rattle.ssa_turn_set.proofs.Turning.{target-is-fixed}
use Rattle.ssa_turn_set.proofs.turn.target_is_fixed.Goals as goal

pub returns : goal.returns
returns c = target-is-fixed
