use Rattle.std.proofs.Common.{◌≡◌, ℕ, List, [], ◌+◌, ◌*◌, ◌<◌, ◌∙◌, ◌&&◌, ap, get_or, length, sym, Some, true, arith, rules, subst₂}
use Rattle.std.proofs.lemmas.Bool.Decides.{nat_tests}
use Rattle.ssa_path.specs.View.{element_view}
use Rattle.ssa_path.proofs.Combining.{heads-none}
use Rattle.ssa_path.proofs.Orders.{both_first, both_second}
use Rattle.ssa_typed.specs.Differences.{AreToldBoth}
use Rattle.ssa_typed.specs.Ordered.{lent_children}
use Rattle.ssa_typed.specs.Rows.{below, rows}
use Rattle.ssa_typed.specs.Same.{AreLeft}
use Rattle.ssa_typed.proofs.Differing.{past-both, past-lost, past-new, past-none}
use Rattle.ssa_typed.proofs.DifferingAlike.{alike-all, alike-length, alike-more, alike-none, alike-other, alike-own, alike-repeats}
use Rattle.ssa_typed.specs.declared.node.Node.{Node}
use Rattle.ssa_typed.proofs.Building.{Child}
use Rattle.ssa_typed.proofs.DifferingLeft.{none-left-repeats, none-left-unchanged, past-all}
use Rattle.ssa_typed.proofs.Levels.{level-below}
use Rattle.ssa_typed.proofs.SameItems.{left-trees, other-left-trees}
use Rattle.ssa_typed.proofs.Left.{left-more, left-nothing, left-ordered, left-other, left-own}
use Rattle.ssa_typed.proofs.Lookups.{tree-child}
use Rattle.ssa_typed.proofs.OverNodes.{ok-gives}
use Rattle.ssa_typed.proofs.Repeating.{repeat-all}
use Rattle.ssa_typed.proofs.Sizes.{smaller}
use Rattle.ssa_typed.proofs.Unchanged.{nothing-grown}
use Rattle.ssa_typed.proofs.compare.+differing.Goals as goal

pub differing_alike-bounds-others-i : goal.differing_alike-bounds-others-i
differing_alike-bounds-others-i t c =
    let long = alike-length c.args.scope c.args.before.now c.args.after.now c.children-own.result.now c.children-others.result.now c.children-own.ensures.own
    c.children-others.ensures.own c.requires.same c.requires.rise in
    omega arith

pub differing_alike-loop-i-init : goal.differing_alike-loop-i-init
differing_alike-loop-i-init t c =
    let none = c.of_none-told.ensures in
    alike-none c.args.scope c.args.before.now c.args.after.now c.children-own.result.now c.children-others.result.now c.children-own.ensures.own
    c.children-others.ensures.own c.requires.same c.requires.rise c.of_none-told.result none.added none.modified none.removed none.places

pub differing_alike-push_differing-requires : goal.differing_alike-push_differing-requires
differing_alike-push_differing-requires t c =
    let n = c.args.before.now in
    let m = c.args.after.now in
    let cs = c.children-own.result.now in
    let ds = c.children-others.result.now in
    let i = c.loop-i.i in
    let r = c.index-own-i.result in
    let s = get_or ds i c.index-others-i.result in
    let own = alike-own c.args.scope n m cs ds c.children-own.ensures.own c.children-others.ensures.own c.requires.same c.requires.rise i r s
    c.loop-i-test.true c.index-own-i.is (ap (get_or ds i) c.index-others-i.is) in
    let other = alike-other c.args.scope n m cs ds c.children-own.ensures.own c.children-others.ensures.own c.requires.same c.requires.rise i r s
    c.loop-i-test.true c.index-own-i.is (ap (get_or ds i) c.index-others-i.is) in
    let small = smaller n (element_view r.0) r.1 own in
    let falls : 7 * length (rows r.1) + 6 < 7 * length (rows n) = omega arith in
    (search (rules, falls), (tree-child n (element_view r.0) r.1 c.requires.before own, tree-child m (element_view s.0) s.1 c.requires.after other))

pub differing_alike-loop-i-preserved : goal.differing_alike-loop-i-preserved
differing_alike-loop-i-preserved t c =
    let ds = c.children-others.result.now in
    let l = c.loop-i in
    alike-more c.args.scope c.args.before.now c.args.after.now c.children-own.result.now ds c.children-own.ensures.own c.children-others.ensures.own
    c.requires.same c.requires.rise l.i c.index-own-i.result (get_or ds l.i c.index-others-i.result) c.loop-i-test.true c.index-own-i.is
    (ap (get_or ds l.i) c.index-others-i.is) l.told c.push_differing.new.told c.requires.before c.requires.after c.in_ok-push_differing.ensures.told
    c.in_ok-push_differing.ensures.repeats l.invariant

pub differing_alike-returns-clause-told : goal.differing_alike-returns-clause-told
differing_alike-returns-clause-told t c =
    let l = c.loop-i in
    alike-all c.args.scope c.args.before.now c.args.after.now c.children-own.result.now c.children-others.result.now c.children-own.ensures.own
    c.children-others.ensures.own c.requires.same c.requires.rise l.i c.loop-i-test.false l.told l.invariant c.requires.after

pub differing_alike-returns-clause-repeats : goal.differing_alike-returns-clause-repeats
differing_alike-returns-clause-repeats t c =
    let l = c.loop-i in
    alike-repeats c.args.scope c.args.before.now c.args.after.now c.children-own.result.now c.children-others.result.now c.children-own.ensures.own
    c.children-others.ensures.own c.requires.same c.requires.rise l.i c.loop-i-test.false l.told l.invariant

pub differing_beside-loop-order-init : goal.differing_beside-loop-order-init
differing_beside-loop-order-init t c =
    let none = c.of_none-told.ensures in
    past-none c.args.scope c.is_dict-in_dict.result (lent_children c.args.own.now) (lent_children c.args.others.now) c.of_none-told.result none.added
    none.modified none.removed none.places c.requires.own c.requires.others

pub differing_beside-push_lost-requires : goal.differing_beside-push_lost-requires
differing_beside-push_lost-requires t c =
    let n = c.args.before.now in
    let m = c.args.after.now in
    let r = c.at.result.now in
    let child = left-own (below n) (below m) (lent_children c.args.own.now) (lent_children c.args.others.now) c.requires.left c.loop-order.i r c.requires.own
    c.at.ensures.read in
    tree-child n (element_view r.0) r.1 c.requires.before child

pub differing_beside-push_alone-requires : goal.differing_beside-push_alone-requires
differing_beside-push_alone-requires t c =
    let n = c.args.before.now in
    let m = c.args.after.now in
    let s = c.at-child.result.now in
    let child = left-other (below n) (below m) (lent_children c.args.own.now) (lent_children c.args.others.now) c.requires.left c.loop-order.j s
    c.requires.others c.at-child.ensures.read in
    tree-child m (element_view s.0) s.1 c.requires.after child

pub differing_beside-push_differing-requires : goal.differing_beside-push_differing-requires
differing_beside-push_differing-requires t c =
    let n = c.args.before.now in
    let m = c.args.after.now in
    let r = c.at-in-Equal.result.now in
    let s = c.at-in-Equal-2.result.now in
    let own = left-own (below n) (below m) (lent_children c.args.own.now) (lent_children c.args.others.now) c.requires.left c.loop-order.i r c.requires.own
    c.at-in-Equal.ensures.read in
    let other = left-other (below n) (below m) (lent_children c.args.own.now) (lent_children c.args.others.now) c.requires.left c.loop-order.j s
    c.requires.others c.at-in-Equal-2.ensures.read in
    let small = smaller n (element_view r.0) r.1 own in
    let falls : 7 * length (rows r.1) + 6 < 7 * length (rows n) = omega arith in
    (search (rules, falls), (tree-child n (element_view r.0) r.1 c.requires.before own, tree-child m (element_view s.0) s.1 c.requires.after other))

pub differing_beside-loop-order-preserved-in-Less : goal.differing_beside-loop-order-preserved-in-Less
differing_beside-loop-order-preserved-in-Less t c =
    let l = c.loop-order in
    let heads = sym c.order_at.ensures ∙ c.in-Some.is ∙ ap Some c.in-Less.is in
    past-lost c.args.scope c.is_dict-in_dict.result (lent_children c.args.own.now) (lent_children c.args.others.now) l.i l.j l.told l.invariant
    c.at.result.now c.push_lost.new.told heads c.at.ensures.read c.in_ok-push_lost-in-Less.ensures

pub differing_beside-loop-order-preserved-in-Greater : goal.differing_beside-loop-order-preserved-in-Greater
differing_beside-loop-order-preserved-in-Greater t c =
    let l = c.loop-order in
    let heads = sym c.order_at.ensures ∙ c.in-Some.is ∙ ap Some c.in-Greater.is in
    past-new c.args.scope c.is_dict-in_dict.result (lent_children c.args.own.now) (lent_children c.args.others.now) l.i l.j l.told l.invariant
    c.at-child.result.now c.push_alone.new.told c.size.result c.saturating_add.result heads c.at-child.ensures.read
    c.in_ok-push_alone-in-Greater.ensures c.size.ensures c.saturating_add.ensures

pub differing_beside-loop-order-preserved : goal.differing_beside-loop-order-preserved
differing_beside-loop-order-preserved t c =
    let n = c.args.before.now in
    let m = c.args.after.now in
    let l = c.loop-order in
    let cs = lent_children c.args.own.now in
    let ds = lent_children c.args.others.now in
    let r = c.at-in-Equal.result.now in
    let s = c.at-in-Equal-2.result.now in
    let heads = sym c.order_at.ensures ∙ c.in-Some.is ∙ ap Some c.in-Equal.is in
    let before = tree-child n (element_view r.0) r.1 c.requires.before
    (left-own (below n) (below m) cs ds c.requires.left l.i r c.requires.own c.at-in-Equal.ensures.read) in
    let after = tree-child m (element_view s.0) s.1 c.requires.after
    (left-other (below n) (below m) cs ds c.requires.left l.j s c.requires.others c.at-in-Equal-2.ensures.read) in
    past-both c.args.scope c.is_dict-in_dict.result cs ds l.i l.j l.told l.invariant r s c.push_differing.new.told heads c.at-in-Equal.ensures.read
    c.at-in-Equal-2.ensures.read before after c.in_ok-push_differing-in-Equal.ensures.told c.in_ok-push_differing-in-Equal.ensures.repeats

pub differing_beside-returns-clause-told : goal.differing_beside-returns-clause-told
differing_beside-returns-clause-told t c =
    let l = c.loop-order in
    let none = heads-none _ _ (sym c.order_at.ensures ∙ c.in_default.is) in
    past-all c.args.scope c.is_dict-in_dict.result (lent_children c.args.own.now) (lent_children c.args.others.now) c.args.before.now c.args.after.now _ _ l.told
    c.is_dict-in_dict.ensures c.requires.after c.requires.left none.0 none.1 l.invariant

pub differing_beside-returns-clause-repeats : goal.differing_beside-returns-clause-repeats
differing_beside-returns-clause-repeats t c repeats =
    let l = c.loop-order in
    let none = heads-none _ _ (sym c.order_at.ensures ∙ c.in_default.is) in
    repeat-all (lent_children c.args.own.now) (lent_children c.args.others.now) c.args.before.now c.args.after.now _ _ c.requires.left
    none.0 none.1 (l.invariant.repeats_so_far repeats)

pub push_differing-returns-in-Leaf-Leaf-clause-told : goal.push_differing-returns-in-Leaf-Leaf-clause-told
push_differing-returns-in-Leaf-Leaf-clause-told t c =
    let leaves = c.in-Leaf-Leaf in
    ok-gives c.push_leaf.result c.push_leaf.ensures.told
    (λ told. subst₂ (λ n m. AreToldBoth c.args.scope (c.args.child.now.0, n) m c.args.told.now c.push_leaf.new.told) (sym leaves.is-0) (sym leaves.is-1)
    (told c.args.scope))

pub differing_apart-differing_beside-requires : goal.differing_apart-differing_beside-requires
differing_apart-differing_beside-requires t c =
    let n = c.args.before.now in
    let m = c.args.after.now in
    let own = c.in_ok-own.ensures in
    let others = c.in_ok-others.ensures in (
      search rules,
      (
        c.requires.before,
        (
          c.requires.after,
          (
            own.rise,
            (
              others.rise,
              left-ordered (below n) (below m) (lent_children c.in_ok-own.field-0) (lent_children c.in_ok-others.field-0) own others,
            ),
          ),
        ),
      ),
    )

pub differing_items-differing_beside-requires : goal.differing_items-differing_beside-requires
differing_items-differing_beside-requires t c =
    let n = c.args.before.now in
    let m = c.args.after.now in
    let own = c.in_ok-own.ensures in
    let others = c.in_ok-others.ensures in
    let cs = lent_children c.in_ok-own.field-0 in
    let ds = lent_children c.in_ok-others.field-0 in
    let rest = left-ordered c.args.own.now c.args.others.now cs ds own others in (
      search rules,
      (
        c.requires.before,
        (
          c.requires.after,
          (
            own.rise,
            (
              others.rise,
              left-more (below n) (below m) c.args.own.now c.args.others.now cs ds c.requires.left rest,
            ),
          ),
        ),
      ),
    )

pub differing_items-returns-clause-told : goal.differing_items-returns-clause-told
differing_items-returns-clause-told t c = c.parts_of.ensures.told c.args.scope c.in_ok-told.ensures.told

pub differing_parts-returns-clause-told : goal.differing_parts-returns-clause-told
differing_parts-returns-clause-told t c = c.parts_of.ensures.told c.args.scope c.in_ok-told.ensures.told

-- none of both lists' items is left
no-items-left : (t : ℕ) (c : goal.push_items-Then-is_empty-2 t) → AreLeft (below c.args.child.now.1) (below c.args.after.now) [] []
no-items-left t c =
    let own = c.between_same.result.0.now in
    let others = c.between_same.result.1.now in
    let test = sym c.is_empty.ensures ∙ c.if-is_empty.true in
    let other_test = sym c.is_empty-then-is_empty.ensures ∙ c.if-is_empty-2.true in
    let bare : length own ≡ 0 = grind (arith, nat_tests) in
    let other_bare : length others ≡ 0 = grind (arith, nat_tests) in
    left-nothing (below c.args.child.now.1) (below c.args.after.now) own others bare other_bare
    (subst₂ (λ cs ds. AreLeft cs ds own others) c.children.ensures.own c.children-2.ensures.own c.between_same.ensures)

pub push_items-returns-then-is_empty-2-clause-told : goal.push_items-returns-then-is_empty-2-clause-told
push_items-returns-then-is_empty-2-clause-told t c =
    let child = c.args.child.now in
    let m = c.args.after.now in
    let unchanged = none-left-unchanged child.1 m c.requires.before c.requires.after c.requires.lists (no-items-left t c) in
    nothing-grown child.1 m c.requires.before c.requires.after unchanged c.args.scope child.0 c.args.told.now

pub push_items-returns-then-is_empty-2-clause-repeats : goal.push_items-returns-then-is_empty-2-clause-repeats
push_items-returns-then-is_empty-2-clause-repeats t c repeats =
    (repeats, none-left-repeats c.args.child.now.1 c.args.after.now c.requires.before c.requires.after c.requires.lists (no-items-left t c))

-- what is left of both lists is left of both nodes
left-below : (n m : Node) (cs ds own others : List Child) → cs ≡ below n → ds ≡ below m → AreLeft cs ds own others
    → AreLeft (below n) (below m) own others
left-below n m cs ds own others is other_is h = subst₂ (λ l k. AreLeft l k own others) is other_is h

pub push_items-are_same_items-requires-clause-own : goal.push_items-are_same_items-requires-clause-own
push_items-are_same_items-requires-clause-own t c =
    let n = c.args.child.now.1 in
    let m = c.args.after.now in
    left-trees (below n) (below m) c.between_same.result.0.now c.between_same.result.1.now ((level-below n).trees c.requires.before)
    (left-below n m _ _ _ _ c.children.ensures.own c.children-2.ensures.own c.between_same.ensures)

pub push_items-are_same_items-requires-clause-others : goal.push_items-are_same_items-requires-clause-others
push_items-are_same_items-requires-clause-others t c =
    let n = c.args.child.now.1 in
    let m = c.args.after.now in
    other-left-trees (below n) (below m) c.between_same.result.0.now c.between_same.result.1.now ((level-below m).trees c.requires.after)
    (left-below n m _ _ _ _ c.children.ensures.own c.children-2.ensures.own c.between_same.ensures)

pub push_items-returns-then-branch-clause-told : goal.push_items-returns-then-branch-clause-told
push_items-returns-then-branch-clause-told t c =
    let n = c.args.child.now.1 in
    let m = c.args.after.now in
    let left = left-below n m _ _ _ _ c.children.ensures.own c.children-2.ensures.own c.between_same.ensures in
    let none = left-more (below n) (below m) c.between_same.result.0.now c.between_same.result.1.now [] [] left
    (c.in_ok-are_same_items.ensures c.if-branch.true) in
    let unchanged = none-left-unchanged n m c.requires.before c.requires.after c.requires.lists none in
    nothing-grown n m c.requires.before c.requires.after unchanged c.args.scope c.args.child.now.0 c.args.told.now

pub push_items-returns-then-branch-clause-repeats : goal.push_items-returns-then-branch-clause-repeats
push_items-returns-then-branch-clause-repeats t c repeats =
    let n = c.args.child.now.1 in
    let m = c.args.after.now in
    let left = left-below n m _ _ _ _ c.children.ensures.own c.children-2.ensures.own c.between_same.ensures in
    let none = left-more (below n) (below m) c.between_same.result.0.now c.between_same.result.1.now [] [] left
    (c.in_ok-are_same_items.ensures c.if-branch.true) in
    (repeats, none-left-repeats n m c.requires.before c.requires.after c.requires.lists none)

pub push_branches-returns-clause-repeats : goal.push_branches-returns-clause-repeats
push_branches-returns-clause-repeats t c =
    ok-gives c.push_parts.result c.push_parts.ensures.repeats (λ sum repeats.
    let both : (c.args.told.now.repeats && c.in_ok-parts.parts.repeats) ≡ true = sym sum ∙ repeats in (
      both_first c.args.told.now.repeats c.in_ok-parts.parts.repeats both,
      c.in_ok-parts.ensures.repeats (both_second c.args.told.now.repeats c.in_ok-parts.parts.repeats both),
    ))

pub push_items-returns-clause-repeats : goal.push_items-returns-clause-repeats
push_items-returns-clause-repeats t c =
    ok-gives c.push_parts.result c.push_parts.ensures.repeats (λ sum repeats.
    let both : (c.args.told.now.repeats && c.in_ok-parts.parts.repeats) ≡ true = sym sum ∙ repeats in (
      both_first c.args.told.now.repeats c.in_ok-parts.parts.repeats both,
      c.in_ok-parts.ensures.repeats (both_second c.args.told.now.repeats c.in_ok-parts.parts.repeats both),
    ))
