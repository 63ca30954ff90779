use Rattle.ssa_json.specs.Readings.{readings}
use Rattle.ssa_model.specs.definitions.RecordReading.{order_in}
use Rattle.ssa_told.specs.Shapes.{is_order}
use Rattle.ssa_told.specs.Told.{told_order}
use Rattle.ssa_told.proofs.ToldItems.{AreToldSoFar}
use Rattle.ssa_told.proofs.body_lists.told_orders.Given as goal

abbrev pub invariant-loop-item : goal.invariant-loop-item
invariant-loop-item l = AreToldSoFar is_order told_order (order_in readings) l.items l.told.items l.item-index
