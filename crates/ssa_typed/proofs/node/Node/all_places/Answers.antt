use Rattle.std.proofs.Common.{refl}
use Rattle.ssa_typed.proofs.Collecting.{places-trie}
use Rattle.ssa_typed.proofs.node.Node.all_places.Goals as goal

pub returns : goal.returns
returns c = places-trie c.args.self.now _ c.requires refl c.in_ok-below.ensures
