use Rattle.ssa_model.proofs.FlatOfShown.{flat_of_shown}
use Rattle.ssa_model.proofs.ShownFits.{shown_fits}
use Rattle.ssa_model.proofs.ShownOfFlat.{shown_of_flat, flat_tells_value}
use Rattle.ssa_model.proofs.shown_bodies.Goals as goal

pub returns : goal.returns
returns c = record { fits = shown_fits; back = flat_of_shown; value = shown_of_flat; one = flat_tells_value }
