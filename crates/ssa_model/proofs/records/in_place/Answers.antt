use Rattle.ssa_model.proofs.InPlace.{table_is_inserted, items_are_inserted}
use Rattle.ssa_model.proofs.Stayers.{stayers_are_led}
use Rattle.ssa_model.proofs.records.in_place.Goals as goal

pub returns : goal.returns
returns c = record { table = table_is_inserted; stayers = stayers_are_led; items = items_are_inserted }
