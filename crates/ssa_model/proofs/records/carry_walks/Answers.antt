use Rattle.ssa_model.proofs.BodyLeads.{tree_leads, bodies_are_trees}
use Rattle.ssa_model.proofs.CarryBelow.{part_is_tree, carry_below}
use Rattle.ssa_model.proofs.records.carry_walks.Goals as goal

pub returns : goal.returns
returns c = record { leads = tree_leads; trees = bodies_are_trees; part = part_is_tree; below = carry_below }
