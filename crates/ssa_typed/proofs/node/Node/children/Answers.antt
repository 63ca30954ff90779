use Rattle.ssa_typed.proofs.Levels.{level-children}
use Rattle.ssa_typed.proofs.node.Node.children.Goals as goal

pub returns-in-Branch-clause-rows : goal.returns-in-Branch-clause-rows
returns-in-Branch-clause-rows c = rw c.deref.ensures.value ((level-children c.args.self.now c.in-Branch.children c.in-Branch.is).rows_are)

pub returns-in-Branch-clause-apart : goal.returns-in-Branch-clause-apart
returns-in-Branch-clause-apart c = rw c.deref.ensures.value ((level-children c.args.self.now c.in-Branch.children c.in-Branch.is).apart)
