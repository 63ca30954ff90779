use Rattle.std.proofs.Common.{subst}
use Rattle.ssa_path.specs.View.{path_view}
use Rattle.ssa_record.specs.Places.{maps_of}
use Rattle.ssa_record.specs.Spots.{IsDown}
use Rattle.ssa_record.proofs.Spots.{from-lower}
use Rattle.ssa_record.proofs.told_spot.+spot_from.Goals as goal

pub returns-in-Some : goal.returns-in-Some
returns-in-Some t c =
    let m = maps_of c.args.told.now in
    let p = path_view c.args.path.now.items in
    let g = path_view c.step_down.new.path.items in
    let lower = subst (IsDown m p c.args.spot g) c.in-Some.is c.in_ok-below.ensures in
    from-lower m p g (path_view c.spot_from.new.path.items) c.args.spot c.in-Some.below c.spot_from.result lower c.spot_from.ensures
