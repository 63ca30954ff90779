use Rattle.std.proofs.Common.{refl}
use Rattle.ssa_model.specs.definitions.Lines.{split_lines}
use Rattle.ssa_model.proofs.RecordedFiled.{files_are_met}
use Rattle.ssa_model.proofs.files.formats_are_worked.Goals as goal

pub returns : goal.returns
unfolding split_lines
returns c = record {
  heads = (refl, refl, refl, refl, refl, refl, refl, refl, refl, refl, refl, refl, refl, refl, refl, refl, refl, refl, refl, refl, refl, refl);
  taken = (refl, refl, refl, refl);
  met = files_are_met;
  mixed = (refl, refl, refl, refl, refl, refl, refl);
  faults = (refl, refl, refl, refl, refl);
  subresources = (refl, refl, refl, refl, refl, refl, refl, refl);
}
