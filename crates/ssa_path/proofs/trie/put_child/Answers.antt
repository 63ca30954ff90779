use Rattle.std.proofs.Common.{refl}
use Rattle.ssa_path.specs.View.{element_view}
use Rattle.ssa_path.proofs.Inserting.{gathered-at}
use Rattle.ssa_path.proofs.trie.put_child.Goals as goal

pub returns-clause-ok : goal.returns-clause-ok
returns-clause-ok c =
    gathered-at c.args.below.now.items c.insert.new.self.items (element_view c.args.element.now) c.args.child c.args.place (c.in_ok-own.own, c.args.child)
    c.in_ok-insert.ensures.items c.in_ok-own.ensures refl c.requires.gap.between c.requires.trie c.requires.filled c.requires.tries
