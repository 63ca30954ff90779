use Rattle.ssa_json.specs.Readings.{readings}
use Rattle.ssa_told.specs.Shapes.{is_leaf}
use Rattle.ssa_told.specs.Told.{told_leaf, said_leaf}
use Rattle.ssa_told.proofs.ToldItems.{AreToldSoFar}
use Rattle.ssa_told.proofs.body_lists.told_leaves.Given as goal

abbrev pub invariant-loop-item : goal.invariant-loop-item
invariant-loop-item l = AreToldSoFar is_leaf told_leaf (said_leaf readings) l.items l.told.items l.item-index
