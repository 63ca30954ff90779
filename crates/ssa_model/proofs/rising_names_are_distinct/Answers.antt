use Rattle.ssa_model.proofs.RisingMembers.{rising_is_distinct}
use Rattle.ssa_model.proofs.rising_names_are_distinct.Goals as goal

pub returns : goal.returns
returns c = rising_is_distinct
