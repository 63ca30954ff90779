-- A set whose root is no path, and that has the points below the root, is that of the tree's points.
use Rattle.ssa_typed.proofs.KnownPoints.{points-held}
use Rattle.ssa_typed.proofs.node.Node.has_points.Goals as goal

pub returns : goal.returns
returns c same = points-held c.args.self.now c.args.set.now c.deref.result.now c.requires c.if-set.false c.deref.ensures.value (c.in_ok-same.ensures same)
