use Rattle.std.proofs.Common.{refl}
use Rattle.ssa_model.specs.definitions.Lines.{split_lines}
use Rattle.ssa_model.proofs.benches_are_taken.Goals as goal

pub returns : goal.returns
unfolding split_lines
returns c = record {
  taken = (refl, refl);
  refused = (refl, refl, refl, refl, refl, refl);
  other_texts = (refl, refl, refl, refl);
}
