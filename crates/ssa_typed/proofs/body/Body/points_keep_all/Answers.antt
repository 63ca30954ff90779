use Rattle.std.proofs.Common.{subst}
use Rattle.ssa_typed.specs.Reached.{PointsKeepAll}
use Rattle.ssa_typed.proofs.Reached.{tree-kept}
use Rattle.ssa_typed.proofs.body.Body.points_keep_all.Goals as goal

pub returns : goal.returns
returns c = subst PointsKeepAll c.root-root.ensures.seen (tree-kept c.root-root.result.now c.root-root.ensures.tree)
