use Rattle.ssa_turn_body.proofs.Returning.{leads-reversed}
use Rattle.ssa_turn_body.proofs.steps.BodySteps.turn.Goals as goal

pub returns-clause-leads : goal.returns-clause-leads
returns-clause-leads c = (leads-reversed c.args.self.now.steps.items _ _ c.args.node.now _ c.reverse.ensures.items c.requires.tree c.requires.fits
    c.turn_all.ensures).0

pub returns-clause-tree : goal.returns-clause-tree
returns-clause-tree c = (leads-reversed c.args.self.now.steps.items _ _ c.args.node.now _ c.reverse.ensures.items c.requires.tree c.requires.fits
    c.turn_all.ensures).1

pub returns-clause-back : goal.returns-clause-back
returns-clause-back c = (leads-reversed c.args.self.now.steps.items _ _ c.args.node.now _ c.reverse.ensures.items c.requires.tree c.requires.fits
    c.turn_all.ensures).2
