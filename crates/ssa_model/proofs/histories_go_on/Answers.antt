use Rattle.ssa_model.proofs.ValidHistories.{accepted_goes_on, next_keeps_history}
use Rattle.ssa_model.proofs.histories_go_on.Goals as goal

pub returns : goal.returns
returns c = record { accepted = accepted_goes_on; kept = next_keeps_history }
