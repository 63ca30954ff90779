use Rattle.ssa_model.proofs.FlatFits.{flat_fits}
use Rattle.ssa_model.proofs.FlatRooted.{flat_is_rooted}
use Rattle.ssa_model.proofs.flat_bodies.Goals as goal

pub returns : goal.returns
returns c = record { fits = flat_fits; rooted = flat_is_rooted }
