use Rattle.ssa_model.proofs.RecordPlaces.{changes_there, place_stays}
use Rattle.ssa_model.proofs.records.record_places.Goals as goal

pub returns : goal.returns
returns c = record { there = changes_there; stays = place_stays }
