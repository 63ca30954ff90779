use Rattle.ssa_model.proofs.KindPlaces.{kinds_fit, place_is_valid, place_is_read}
use Rattle.ssa_model.proofs.records.kind_places.Goals as goal

pub returns : goal.returns
returns c = record { fits = kinds_fit; valid = place_is_valid; read = place_is_read }
