use Rattle.ssa_model.proofs.ShownStates.{shown_state_is_taken}
use Rattle.ssa_model.proofs.shown_states.Goals as goal

pub returns : goal.returns
returns c = shown_state_is_taken
