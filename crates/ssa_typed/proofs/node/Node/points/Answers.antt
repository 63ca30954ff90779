use Rattle.std.proofs.Common.{refl}
use Rattle.ssa_typed.proofs.Collecting.{point-trie}
use Rattle.ssa_typed.proofs.node.Node.points.Goals as goal

pub returns : goal.returns
returns c = point-trie c.args.self.now _ c.requires refl c.in_ok-below.ensures
