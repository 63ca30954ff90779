use Rattle.ssa_typed.proofs.live_places.places_searched.Goals as goal

pub find-place-requires : goal.find-place-requires
find-place-requires c = (c.args.live.now, c.in_ok-places.ensures)
