use Rattle.ssa_path.specs.View.{element_view}
use Rattle.ssa_typed.proofs.SortedOut.{scanned-place}
use Rattle.ssa_typed.proofs.live_places.place_among.Goals as goal

pub returns : goal.returns
returns c = scanned-place (element_view c.args.element.now) c.args.live.now c.scan.result c.requires c.scan.ensures.some c.scan.ensures.none
