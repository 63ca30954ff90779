use Rattle.std.proofs.Common.{◌∙◌}
use Rattle.ssa_record.proofs.Stands.{parent-walked}
use Rattle.ssa_record.proofs.standing.has_parent.Goals as goal

pub returns : goal.returns
returns c =
    c.is_some.ensures
    ∙ parent-walked c.root.result.now c.args.body.now c.args.path.now c.elements-elements.result.now c.saturating_sub-above.result c.node_at.result
    c.root.ensures.seen c.elements-elements.ensures c.saturating_sub-above.ensures c.node_at.ensures.none c.node_at.ensures.some
