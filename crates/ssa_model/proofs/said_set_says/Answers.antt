use Rattle.std.proofs.Common.{refl}
use Rattle.ssa_model.proofs.SaidSets.{said_set_says}
use Rattle.ssa_model.proofs.said_set_says.Goals as goal

pub returns : goal.returns
returns c = record { says = said_set_says; met = λ reading. (refl, refl, refl) }
