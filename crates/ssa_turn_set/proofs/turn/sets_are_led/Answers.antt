use Rattle.ssa_turn_set.proofs.Turning.{sets-are-led}
use Rattle.ssa_turn_set.proofs.turn.sets_are_led.Goals as goal

pub returns : goal.returns
returns c = sets-are-led
