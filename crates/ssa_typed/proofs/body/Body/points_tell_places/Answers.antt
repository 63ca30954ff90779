use Rattle.std.proofs.Common.{subst}
use Rattle.ssa_typed.specs.Reached.{PointsTellPlaces}
use Rattle.ssa_typed.proofs.Reached.{tree-places}
use Rattle.ssa_typed.proofs.body.Body.points_tell_places.Goals as goal

pub returns : goal.returns
returns c = subst PointsTellPlaces c.root-root.ensures.seen (tree-places c.root-root.result.now c.root-root.ensures.tree)
