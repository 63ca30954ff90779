use Rattle.ssa_model.proofs.PlaceRows.{item_replaced, other_part_kept, place_met}
use Rattle.ssa_model.proofs.records.places_are_replaced.Goals as goal

pub returns : goal.returns
returns c = record { item = item_replaced; other = other_part_kept; met = place_met }
