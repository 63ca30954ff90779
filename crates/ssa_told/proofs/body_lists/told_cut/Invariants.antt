use Rattle.std.proofs.Common.{Some}
use Rattle.ssa_json.specs.Readings.{readings}
use Rattle.ssa_model.specs.definitions.Path.{Path}
use Rattle.ssa_model.specs.definitions.RecordReading.{is_path, path_in}
use Rattle.ssa_told.proofs.ToldItems.{AreToldSoFar}
use Rattle.ssa_told.proofs.body_lists.told_cut.Given as goal

abbrev pub invariant-loop-item : goal.invariant-loop-item
invariant-loop-item l = AreToldSoFar (is_path readings) (λ (p : Path). p) (λ v. path_in readings (Some v)) l.items l.told.items l.item-index
