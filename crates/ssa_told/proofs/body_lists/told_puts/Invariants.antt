use Rattle.ssa_json.specs.Readings.{readings}
use Rattle.ssa_model.specs.definitions.RecordReading.{is_put}
use Rattle.ssa_told.specs.Told.{told_put, said_put}
use Rattle.ssa_told.proofs.ToldItems.{AreToldSoFar}
use Rattle.ssa_told.proofs.body_lists.told_puts.Given as goal

abbrev pub invariant-loop-item : goal.invariant-loop-item
invariant-loop-item l = AreToldSoFar (is_put readings) told_put (said_put readings) l.items l.told.items l.item-index
