use Rattle.ssa_model.proofs.SharedManagers as managers
use Rattle.ssa_model.proofs.operations_keep_order.Goals as goal

pub returns : goal.returns
returns c = managers.operations_keep_order
