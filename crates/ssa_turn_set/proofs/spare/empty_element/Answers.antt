use Rattle.ssa_model.proofs.Tables.{element-itself}
use Rattle.ssa_path.specs.View.{element_view}
use Rattle.ssa_turn_set.proofs.spare.empty_element.Goals as goal

pub returns : goal.returns
returns c = element-itself (element_view c.args.element)
