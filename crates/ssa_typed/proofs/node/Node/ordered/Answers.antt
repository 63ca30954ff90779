use Rattle.std.proofs.Common.{sym, ap, ◌∙◌}
use Rattle.ssa_path.specs.Children.{elements}
use Rattle.ssa_typed.specs.Rows.{are_apart, below}
use Rattle.ssa_typed.proofs.Levels.{level-below}
use Rattle.ssa_typed.proofs.OverNodes.{below-Branch, below-Dict, below-List, dict-rises, record-rises}
use Rattle.ssa_typed.proofs.References.{standing-order}
use Rattle.ssa_typed.proofs.node.Node.ordered.Goals as goal

pub items_in_order-requires : goal.items_in_order-requires
items_in_order-requires c =
    let n = c.args.self.now in
    let own = c.deref-in-List.ensures.value ∙ sym (ap below c.in-List.is ∙ below-List c.in-List.items) in
    ap (λ cs. are_apart (elements cs)) own ∙ (level-below n).apart c.requires

pub returns-in-Branch : goal.returns-in-Branch
returns-in-Branch c =
    let n = c.args.self.now in
    let v = c.in-Branch.children in
    standing-order (below n) v.items _ (ap below c.in-Branch.is ∙ below-Branch v) c.deref.ensures.value (record-rises n v c.in-Branch.is c.requires)

pub returns-in-Dict : goal.returns-in-Dict
returns-in-Dict c =
    let n = c.args.self.now in
    let v = c.in-Dict.children in
    standing-order (below n) v.items _ (ap below c.in-Dict.is ∙ below-Dict v) c.deref-in-Dict.ensures.value (dict-rises n v c.in-Dict.is c.requires)
