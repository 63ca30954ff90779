use Rattle.std.proofs.Common.{refl}
use Rattle.ssa_model.specs.definitions.Lines.{split_lines}
use Rattle.ssa_model.proofs.records.damaged_records_are_told.Goals as goal

pub returns : goal.returns
unfolding split_lines
returns c = record {
  lines = (refl, refl, refl, refl, refl, refl, refl, refl, refl, refl);
  files = (refl, refl, refl, refl, refl, refl);
  others = (refl, refl, refl);
}
