use Rattle.std.proofs.Common.{subst}
use Rattle.ssa_typed.specs.Reached.{PartsAreOfPlaces}
use Rattle.ssa_typed.proofs.Reached.{tree-parts}
use Rattle.ssa_typed.proofs.body.Body.parts_are_of_places.Goals as goal

pub returns : goal.returns
returns c = subst PartsAreOfPlaces c.root-root.ensures.seen (tree-parts c.root-root.result.now c.root-root.ensures.tree)
