use Rattle.std.proofs.Common.{◌∙◌, sym}
use Rattle.ssa_typed.specs.declared.node.Node.{Leaf as LeafOf}
use Rattle.ssa_typed.proofs.Copying.{tree-Leaf}
use Rattle.ssa_typed.proofs.DifferingLeaves.{leaf-modified, leaf-one, leaf-passed}
use Rattle.ssa_typed.proofs.Repeating.{repeat-same}
use Rattle.ssa_typed.proofs.Unchanged.{nothing-grown, same-unchanged}
use Rattle.ssa_typed.proofs.compare.push_leaf.Goals as goal

pub returns-then-is_same-clause-told : goal.returns-then-is_same-clause-told
returns-then-is_same-clause-told c scope =
    let l = c.args.own.now in
    let k = c.args.other.now in
    nothing-grown (LeafOf l) (LeafOf k) (tree-Leaf l) (tree-Leaf k)
    (same-unchanged (LeafOf l) (LeafOf k) (leaf-one l k (c.is_same.ensures c.if-is_same.true))) scope c.args.element.now c.args.told.now

pub returns-then-is_same-clause-repeats : goal.returns-then-is_same-clause-repeats
returns-then-is_same-clause-repeats c repeats =
    let l = c.args.own.now in
    let k = c.args.other.now in
    (repeats, repeat-same (LeafOf l) (LeafOf k) (tree-Leaf l) (leaf-one l k (c.is_same.ensures c.if-is_same.true)))

pub returns-in_ok-push_filled-clause-told : goal.returns-in_ok-push_filled-clause-told
returns-in_ok-push_filled-clause-told c scope =
    leaf-modified c.args.own.now c.args.other.now scope c.args.element.now c.args.told.now c.new.result c.push_filled.new.children
    (sym c.is_other.ensures ∙ c.if-is_other.true) c.new.ensures.items c.in_ok-push_filled.ensures.ok

pub returns-else-is_other-clause-told : goal.returns-else-is_other-clause-told
returns-else-is_other-clause-told c scope =
    leaf-passed c.args.own.now c.args.other.now scope c.args.element.now c.args.told.now (sym c.is_other.ensures ∙ c.if-is_other.false)
