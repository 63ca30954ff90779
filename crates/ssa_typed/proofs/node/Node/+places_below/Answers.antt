use Rattle.std.proofs.Common.{◌+◌, rules, subst, sym}
use Rattle.ssa_typed.specs.declared.node.Node.{the_lemmas}
use Rattle.ssa_typed.proofs.Sizes.{IsCount, count-leaf, count-more, length-leaf}
use Rattle.ssa_typed.proofs.node.Node.+places_below.Goals as goal
use Rattle.ssa_typed.proofs.node.Node.+places_below.Goals.{in-Leaf, in_default}

pub places_below-requires : goal.places_below-requires
places_below-requires t c = search (rules, the_lemmas)

pub loop-child-preserved : goal.loop-child-preserved
loop-child-preserved t c =
    let cs = c.children-children.result.now in
    let l = c.loop-child in
    let child = c.child-item.result in
    elim c.match-child.branch [
      | in-Leaf w ↦
          subst (IsCount cs (l.child-index + 1)) (sym w.count-is)
          (count-leaf cs l.child-index child l.count c.loop-child-test.true c.child-item.is l.invariant (length-leaf child.1 w.in-Leaf.field-0 w.in-Leaf.is))
      | in_default w ↦
          subst (IsCount cs (l.child-index + 1)) (sym w.count-is)
          (count-more cs l.child-index child l.count c.loop-child-test.true c.child-item.is l.invariant w.places_below.result w.saturating_add-count.result
          w.places_below.ensures w.saturating_add-count.ensures)
    ]
