use Rattle.std.specs.Option.{option_to_list}
use Rattle.std.specs.List.{All, list_any}
use Rattle.std.specs.Prelude.{filter}
use Rattle.std.proofs.Common.{◌≡◌, ◌<◌, ◌+◌, ◌*◌, ◌++◌, ◌∷◌, List, length, drop, get_or, nat_eq, true, false, Some, Less, Equal, Greater, refl, sym, ap, subst, subst₂, ◌∙◌, arith, rules}
use Rattle.ssa_model.specs.definitions.Kind.{is_among}
use Rattle.ssa_path.specs.Children.{child_at, elements, heads_order}
use Rattle.ssa_path.specs.View.{element_view}
use Rattle.ssa_path.proofs.Combining.{both-within, heads-none, own-within}
use Rattle.ssa_path.proofs.Lists.{left-at}
use Rattle.ssa_typed.specs.MergedOrder.{AreTurns, is_new, is_old}
use Rattle.ssa_typed.specs.Rows.{below, rows, rows_below}
use Rattle.ssa_typed.specs.declared.node.Node.TheVariants
use Rattle.ssa_typed.proofs.Building.{Child}
use Rattle.ssa_typed.proofs.InOneOrder.{placed-child}
use Rattle.ssa_typed.proofs.Levels.{Children, rises-apart}
use Rattle.ssa_typed.proofs.Lookups.{child-tree}
use Rattle.ssa_typed.proofs.OverNodes.{below-Branch, below-Dict, below-List, children-alike, config-apart, config-trees, dict-over, dict-rises, leaf-over, list-over, live-entries-rise, live-fields-rise, left-over, live-smaller, ok-gives, order-live, over-live, record-over, record-rises}
use Rattle.ssa_typed.proofs.Overlaying.{child-at-index}
use Rattle.ssa_typed.proofs.Placed.{IsFound, as-many-told, next-there, next-told, placed-all, placed-over, placed-within}
use Rattle.ssa_typed.proofs.Pairs.{other-there, overlaid-all, overlaid-more, overlaid-order, own-there, within}
use Rattle.ssa_typed.proofs.SideBySide.{IsOverSoFar, heads-alike, over-both, over-copied, over-end, over-moved, over-start}
use Rattle.ssa_typed.proofs.Sizes.{larger-children}
use Rattle.ssa_typed.proofs.SortedOut.{place-within}
use Rattle.ssa_typed.proofs.Refilling.{IsRefilling, refilled-among, refilling-copied, refilling-end, refilling-own, refilling-start, some-come, turn-own, turn-place, turn-within}
use Rattle.ssa_typed.proofs.over.+over.Goals.{over_found-then-contains+in_ok-over_node+in_ok-push, over_found-else-contains+in_ok-push_copy}
use Rattle.ssa_typed.proofs.over.+over.Goals as goal

pub over_alike-index_mut-own-requires : goal.over_alike-index_mut-own-requires
over_alike-index_mut-own-requires t c =
    let v = c.loop-i.config in
    let there = within c.args.live.now c.args.config.now.items v.items c.loop-i.i c.index-live-i.result c.requires.same c.requires.apart c.loop-i-test.true
    c.index-live-i.is c.loop-i.invariant in
    omega (arith, there, v.ok.0)

pub over_alike-over_node-requires : goal.over_alike-over_node-requires
over_alike-over_node-requires t c =
    let cs = c.args.live.now in
    let ds = c.args.config.now.items in
    let child = c.index-live-i.result in
    let e = element_view child.0 in
    let d = c.index_mut-own.result.now in
    let own = own-there cs ds c.loop-i.config.items c.loop-i.i child c.requires.same c.requires.apart c.loop-i-test.true c.index-live-i.is
    c.loop-i.invariant in
    let other = other-there cs ds c.loop-i.config.items c.loop-i.i child c.requires.same c.requires.apart c.loop-i-test.true c.index-live-i.is
    c.loop-i.invariant d c.index_mut-own.ensures.value in
    let part = larger-children e cs child.1 own in
    let small : 4 * length (rows child.1) < 4 * length (rows_below cs) + 1 = omega arith in (
      search (rules, small),
      (
        child-tree e cs child.1 c.requires.live own,
        (
          child-tree e ds d.1 c.requires.config other,
          c.requires.alike e child.1 d.1 own
              other,
        ),
      ),
    )

pub over_alike-loop-i-preserved : goal.over_alike-loop-i-preserved
over_alike-loop-i-preserved t c =
    let cs = c.args.live.now in
    let ds = c.args.config.now.items in
    let xs = c.loop-i.config.items in
    let i = c.loop-i.i in
    let child = c.index-live-i.result in
    overlaid-more cs ds xs i child c.requires.same c.requires.apart c.loop-i-test.true c.index-live-i.is c.loop-i.invariant c.index_mut-own.result.now
    c.index_mut-own.ensures.value c.over_node.new.config _ c.in_ok-over_node.ensures refl

pub over_alike-returns : goal.over_alike-returns
over_alike-returns t c =
    overlaid-all c.args.live.now c.args.config.now.items c.loop-i.config.items c.loop-i.i c.requires.same c.loop-i-test.false c.loop-i.invariant

pub over_fields-returns-then-stand_alike : goal.over_fields-returns-then-stand_alike
over_fields-returns-then-stand_alike t c =
    let same = c.stand_alike.ensures c.if-stand_alike.true ∙ ap elements c.deref.ensures.value in
    ok-gives c.over_alike.result c.over_alike.ensures (overlaid-order c.args.live.now c.args.config.now.items c.over_alike.new.config.items same
    c.requires.rise)

pub over_fields-over_alike-requires : goal.over_fields-over_alike-requires
over_fields-over_alike-requires t c =
    let apart = rises-apart (elements c.args.live.now) c.requires.live_rise in
    let same = c.stand_alike.ensures c.if-stand_alike.true ∙ ap elements c.deref.ensures.value in
    (search rules, (c.requires.live, (c.requires.config, (apart, (c.requires.alike, same)))))

pub over_beside-loop-order-init : goal.over_beside-loop-order-init
over_beside-loop-order-init t c =
    let cs = c.args.live.now in
    let ds = c.args.config.now.items in
    let none = c.in_ok-merged.ensures.items in
    let lent = c.from-left.ensures.0 ∙ ap (λ (v : Children). v.items) c.replace.ensures.value in
    rw (none, lent) (over-start cs ds c.requires.live_rise c.requires.rise c.requires.live c.requires.config c.requires.alike)

pub over_beside-loop-order-preserved-in-Less : goal.over_beside-loop-order-preserved-in-Less
over_beside-loop-order-preserved-in-Less t c =
    let cs = c.args.live.now in
    let i = c.loop-order.i in
    let ds = c.loop-order.left.items in
    let child = c.index-live-i.result in
    let heads = sym c.order_beside.ensures ∙ c.in-Some.is ∙ ap Some c.in-Less.is in
    let left = left-at cs i child (own-within cs ds i heads) c.index-live-i.is in
    let so_far = subst (λ l. IsOverSoFar cs c.args.config.now.items l ds c.loop-order.merged.items) left c.loop-order.invariant in
    let first = subst (λ l. heads_order l ds ≡ Some Less) left heads in
    let x = c.in_ok-push_copy-in-Less.ensures in
    over-copied cs c.args.config.now.items child (drop (i + 1) cs) ds c.loop-order.merged.items c.push_copy.new.copies.items x.0 so_far first x.1 x.2 x.3

pub over_beside-loop-order-preserved-in-Continue-branch-3 : goal.over_beside-loop-order-preserved-in-Continue-branch-3
over_beside-loop-order-preserved-in-Continue-branch-3 t c =
    let cs = c.args.live.now in
    let new = c.pop_front.new.self.items in
    let heads = sym c.order_beside.ensures ∙ c.in-Some.is ∙ ap Some c.in-Greater.is in
    let first = c.pop_front.ensures.items ∙ ap (λ o. option_to_list o ++ new) c.unwrap-new.ensures in
    over-moved cs c.args.config.now.items (drop c.loop-order.i cs) c.unwrap-new.result new c.loop-order.merged.items c.push.new.self.items
    (subst (λ l. heads_order (drop c.loop-order.i cs) l ≡ Some Greater) first heads) c.in_ok-push-in-Greater.ensures.items
    (subst (λ l. IsOverSoFar cs c.args.config.now.items (drop c.loop-order.i cs) l c.loop-order.merged.items) first c.loop-order.invariant)

pub over_beside-over_node-requires : goal.over_beside-over_node-requires
over_beside-over_node-requires t c =
    let cs = c.args.live.now in
    let i = c.loop-order.i in
    let child = get_or cs i c.index-live-i-in-Equal.result in
    let d = c.unwrap-element.result in
    let new = c.pop_front-in-Equal.new.self.items in
    let heads = sym c.order_beside.ensures ∙ c.in-Some.is ∙ ap Some c.in-Equal.is in
    let lt = (both-within cs c.loop-order.left.items i 0 heads).0 in
    let is = ap (get_or cs i) c.index-live-i-in-Equal.is in
    let left = left-at cs i child lt is in
    let first = c.pop_front-in-Equal.ensures.items ∙ ap (λ o. option_to_list o ++ new) c.unwrap-element.ensures in
    let alike = heads-alike cs c.args.config.now.items child d (drop (i + 1) cs) new c.loop-order.merged.items
    (subst₂ (λ k l. IsOverSoFar cs c.args.config.now.items k l c.loop-order.merged.items) left first c.loop-order.invariant)
    (subst₂ (λ k l. heads_order k l ≡ Some Equal) left first heads) in
    let own = child-at-index cs i child lt is (rises-apart (elements cs) c.requires.live_rise) in
    let part = larger-children (element_view child.0) cs child.1 own in
    let small : 4 * length (rows child.1) < 4 * length (rows_below cs) + 1 = omega arith in
    (search (rules, small), (alike.0, (alike.1, alike.2)))

pub over_beside-loop-order-preserved : goal.over_beside-loop-order-preserved
over_beside-loop-order-preserved t c =
    let cs = c.args.live.now in
    let i = c.loop-order.i in
    let child = get_or cs i c.index-live-i-in-Equal.result in
    let d = c.unwrap-element.result in
    let new = c.pop_front-in-Equal.new.self.items in
    let heads = sym c.order_beside.ensures ∙ c.in-Some.is ∙ ap Some c.in-Equal.is in
    let lt = (both-within cs c.loop-order.left.items i 0 heads).0 in
    let is = ap (get_or cs i) c.index-live-i-in-Equal.is in
    let left = left-at cs i child lt is in
    let first = c.pop_front-in-Equal.ensures.items ∙ ap (λ o. option_to_list o ++ new) c.unwrap-element.ensures in
    let so_far = subst₂ (λ k l. IsOverSoFar cs c.args.config.now.items k l c.loop-order.merged.items) left first c.loop-order.invariant in
    let tied = subst₂ (λ k l. heads_order k l ≡ Some Equal) left first heads in
    over-both cs c.args.config.now.items child d (drop (i + 1) cs) new c.loop-order.merged.items so_far tied c.over_node.new.config
    c.push-in-Equal.new.self.items c.in_ok-push-in-Equal.ensures.items c.in_ok-over_node-in-Equal.ensures

pub over_beside-returns : goal.over_beside-returns
over_beside-returns t c =
    let none = heads-none _ _ (sym c.order_beside.ensures ∙ c.in_default.is) in
    over-end c.args.live.now c.args.config.now.items _ _ c.loop-order.merged.items none.0 none.1 c.loop-order.invariant

pub over_found-loop-i-init : goal.over_found-loop-i-init
over_found-loop-i-init t c =
    let cs = c.args.live.now in
    let ds = c.args.config.now.items in
    let ks = c.as_slice-fill.result.now in
    let own = c.from-own.result.items in
    let lent : c.replace.result.items ≡ ds = ap (λ (v : Children). v.items) c.replace.ensures.value in
    let own_are : own ≡ filter (is_old cs) ds = c.from-own.ensures.0 ∙ c.in_ok-parts.ensures.own ∙ ap (filter (is_old cs)) lent in
    let turns : AreTurns cs ds ks own = subst (AreTurns cs ds ks) (sym c.from-own.ensures.0)
    (subst₂ (λ d k. AreTurns cs d k c.in_ok-parts.parts.own.items) lent (sym c.as_slice-fill.ensures.keys) c.in_ok-parts.ensures.turns) in
    subst (IsRefilling cs ds own ks 0 0) (sym c.in_ok-merged.ensures.items) (refilling-start cs ds own ks c.requires.apart c.requires.config_apart own_are turns)

pub over_found-unwrap-element-requires : goal.over_found-unwrap-element-requires
over_found-unwrap-element-requires t c =
    let cs = c.args.live.now in
    let ds = c.args.config.now.items in
    let ks = c.as_slice-fill.result.now in
    let l = c.loop-i in
    let i = l.i-counter in
    let child = c.index-live-i.result in
    let all : List Child = c.in_ok-parts.parts.own.items in
    let lent : c.replace.result.items ≡ ds = ap (λ (v : Children). v.items) c.replace.ensures.value in
    let own_are : all ≡ filter (is_old cs) ds = c.in_ok-parts.ensures.own ∙ ap (filter (is_old cs)) lent in
    let turns : AreTurns cs ds ks all = subst₂ (λ d k. AreTurns cs d k all) lent (sym c.as_slice-fill.ensures.keys) c.in_ok-parts.ensures.turns in
    let among = refilled-among cs ds ks all i child c.requires.apart c.loop-i-test.true c.index-live-i.is own_are turns in
    let test : list_any (nat_eq i) ks ≡ c.contains.result = ap (list_any (nat_eq i)) c.as_slice-fill.ensures.keys ∙ sym c.contains.ensures in
    let on : is_among (element_view child.0) (elements ds) ≡ true = sym among ∙ test ∙ c.if-contains.true in
    let more = some-come cs ds l.own.items ks i l.next l.merged.items child c.requires.apart c.loop-i-test.true c.index-live-i.is l.invariant on in
    c.pop_front.ensures.variant.1 (omega (arith, more, l.own.ok.0))

pub over_found-bounds-fill-next : goal.over_found-bounds-fill-next
over_found-bounds-fill-next t c =
    let cs = c.args.live.now in
    let ds = c.args.config.now.items in
    let ks = c.as_slice-fill.result.now in
    let l = c.loop-i in
    let i = l.i-counter in
    let child = c.index-live-i.result in
    let all : List Child = c.in_ok-parts.parts.own.items in
    let lent : c.replace.result.items ≡ ds = ap (λ (v : Children). v.items) c.replace.ensures.value in
    let own_are : all ≡ filter (is_old cs) ds = c.in_ok-parts.ensures.own ∙ ap (filter (is_old cs)) lent in
    let turns : AreTurns cs ds ks all = subst₂ (λ d k. AreTurns cs d k all) lent (sym c.as_slice-fill.ensures.keys) c.in_ok-parts.ensures.turns in
    let among = refilled-among cs ds ks all i child c.requires.apart c.loop-i-test.true c.index-live-i.is own_are turns in
    let test : list_any (nat_eq i) ks ≡ c.contains.result = ap (list_any (nat_eq i)) c.as_slice-fill.ensures.keys ∙ sym c.contains.ensures in
    let d = c.unwrap-element.result in
    let later = c.pop_front.new.self.items in
    let comes : l.own.items ≡ d ∷ later = c.pop_front.ensures.items ∙ ap (λ o. option_to_list o ++ later) c.unwrap-element.ensures in
    let within : l.next < length ks = turn-within cs ds l.own.items ks i l.next l.merged.items child c.requires.apart c.loop-i-test.true c.index-live-i.is
    l.invariant d later comes in
    within

pub over_found-offset_bounds-fill-next : goal.over_found-offset_bounds-fill-next
over_found-offset_bounds-fill-next t c =
    let cs = c.args.live.now in
    let ds = c.args.config.now.items in
    let ks = c.as_slice-fill.result.now in
    let l = c.loop-i in
    let i = l.i-counter in
    let child = c.index-live-i.result in
    let all : List Child = c.in_ok-parts.parts.own.items in
    let lent : c.replace.result.items ≡ ds = ap (λ (v : Children). v.items) c.replace.ensures.value in
    let own_are : all ≡ filter (is_old cs) ds = c.in_ok-parts.ensures.own ∙ ap (filter (is_old cs)) lent in
    let turns : AreTurns cs ds ks all = subst₂ (λ d k. AreTurns cs d k all) lent (sym c.as_slice-fill.ensures.keys) c.in_ok-parts.ensures.turns in
    let among = refilled-among cs ds ks all i child c.requires.apart c.loop-i-test.true c.index-live-i.is own_are turns in
    let test : list_any (nat_eq i) ks ≡ c.contains.result = ap (list_any (nat_eq i)) c.as_slice-fill.ensures.keys ∙ sym c.contains.ensures in
    let d = c.unwrap-element.result in
    let later = c.pop_front.new.self.items in
    let comes : l.own.items ≡ d ∷ later = c.pop_front.ensures.items ∙ ap (λ o. option_to_list o ++ later) c.unwrap-element.ensures in
    let within : l.next < length ks = turn-within cs ds l.own.items ks i l.next l.merged.items child c.requires.apart c.loop-i-test.true c.index-live-i.is
    l.invariant d later comes in
    omega arith

pub over_found-bounds-live-place : goal.over_found-bounds-live-place
over_found-bounds-live-place t c =
    let cs = c.args.live.now in
    let ds = c.args.config.now.items in
    let ks = c.as_slice-fill.result.now in
    let l = c.loop-i in
    let i = l.i-counter in
    let child = c.index-live-i.result in
    let all : List Child = c.in_ok-parts.parts.own.items in
    let lent : c.replace.result.items ≡ ds = ap (λ (v : Children). v.items) c.replace.ensures.value in
    let own_are : all ≡ filter (is_old cs) ds = c.in_ok-parts.ensures.own ∙ ap (filter (is_old cs)) lent in
    let turns : AreTurns cs ds ks all = subst₂ (λ d k. AreTurns cs d k all) lent (sym c.as_slice-fill.ensures.keys) c.in_ok-parts.ensures.turns in
    let among = refilled-among cs ds ks all i child c.requires.apart c.loop-i-test.true c.index-live-i.is own_are turns in
    let test : list_any (nat_eq i) ks ≡ c.contains.result = ap (list_any (nat_eq i)) c.as_slice-fill.ensures.keys ∙ sym c.contains.ensures in
    let d = c.unwrap-element.result in
    let later = c.pop_front.new.self.items in
    let comes : l.own.items ≡ d ∷ later = c.pop_front.ensures.items ∙ ap (λ o. option_to_list o ++ later) c.unwrap-element.ensures in
    let within : l.next < length ks = turn-within cs ds l.own.items ks i l.next l.merged.items child c.requires.apart c.loop-i-test.true c.index-live-i.is
    l.invariant d later comes in
    let placed = turn-place cs ds l.own.items ks i l.next l.merged.items child c.requires.apart c.loop-i-test.true c.index-live-i.is l.invariant d later comes 0 in
    place-within (element_view d.0) cs (get_or ks l.next 0) placed

pub over_found-offset_bounds-live-place : goal.over_found-offset_bounds-live-place
over_found-offset_bounds-live-place t c =
    let cs = c.args.live.now in
    let ds = c.args.config.now.items in
    let ks = c.as_slice-fill.result.now in
    let l = c.loop-i in
    let i = l.i-counter in
    let child = c.index-live-i.result in
    let all : List Child = c.in_ok-parts.parts.own.items in
    let lent : c.replace.result.items ≡ ds = ap (λ (v : Children). v.items) c.replace.ensures.value in
    let own_are : all ≡ filter (is_old cs) ds = c.in_ok-parts.ensures.own ∙ ap (filter (is_old cs)) lent in
    let turns : AreTurns cs ds ks all = subst₂ (λ d k. AreTurns cs d k all) lent (sym c.as_slice-fill.ensures.keys) c.in_ok-parts.ensures.turns in
    let among = refilled-among cs ds ks all i child c.requires.apart c.loop-i-test.true c.index-live-i.is own_are turns in
    let test : list_any (nat_eq i) ks ≡ c.contains.result = ap (list_any (nat_eq i)) c.as_slice-fill.ensures.keys ∙ sym c.contains.ensures in
    let d = c.unwrap-element.result in
    let later = c.pop_front.new.self.items in
    let comes : l.own.items ≡ d ∷ later = c.pop_front.ensures.items ∙ ap (λ o. option_to_list o ++ later) c.unwrap-element.ensures in
    let within : l.next < length ks = turn-within cs ds l.own.items ks i l.next l.merged.items child c.requires.apart c.loop-i-test.true c.index-live-i.is
    l.invariant d later comes in
    let placed = turn-place cs ds l.own.items ks i l.next l.merged.items child c.requires.apart c.loop-i-test.true c.index-live-i.is l.invariant d later comes 0 in
    let there = place-within (element_view d.0) cs (get_or ks l.next 0) placed in
    omega arith

pub over_found-over_node-requires : goal.over_found-over_node-requires
over_found-over_node-requires t c =
    let cs = c.args.live.now in
    let ds = c.args.config.now.items in
    let ks = c.as_slice-fill.result.now in
    let l = c.loop-i in
    let i = l.i-counter in
    let child = c.index-live-i.result in
    let all : List Child = c.in_ok-parts.parts.own.items in
    let lent : c.replace.result.items ≡ ds = ap (λ (v : Children). v.items) c.replace.ensures.value in
    let own_are : all ≡ filter (is_old cs) ds = c.in_ok-parts.ensures.own ∙ ap (filter (is_old cs)) lent in
    let turns : AreTurns cs ds ks all = subst₂ (λ d k. AreTurns cs d k all) lent (sym c.as_slice-fill.ensures.keys) c.in_ok-parts.ensures.turns in
    let among = refilled-among cs ds ks all i child c.requires.apart c.loop-i-test.true c.index-live-i.is own_are turns in
    let test : list_any (nat_eq i) ks ≡ c.contains.result = ap (list_any (nat_eq i)) c.as_slice-fill.ensures.keys ∙ sym c.contains.ensures in
    let d = c.unwrap-element.result in
    let later = c.pop_front.new.self.items in
    let comes : l.own.items ≡ d ∷ later = c.pop_front.ensures.items ∙ ap (λ o. option_to_list o ++ later) c.unwrap-element.ensures in
    let within : l.next < length ks = turn-within cs ds l.own.items ks i l.next l.merged.items child c.requires.apart c.loop-i-test.true c.index-live-i.is
    l.invariant d later comes in
    let placed = turn-place cs ds l.own.items ks i l.next l.merged.items child c.requires.apart c.loop-i-test.true c.index-live-i.is l.invariant d later comes 0 in
    let e = element_view d.0 in
    let x = get_or cs (get_or ks l.next 0) c.index-live-place.result in
    let own : child_at e cs ≡ Some x.1 = placed-child e cs (get_or ks l.next 0) c.index-live-place.result placed in
    let other = turn-own cs ds l.own.items ks i l.next l.merged.items child c.requires.apart c.loop-i-test.true c.index-live-i.is l.invariant d later comes in
    let part = larger-children e cs x.1 own in
    let small : 4 * length (rows x.1) < 4 * length (rows_below cs) + 1 = omega arith in (
      search (rules, small),
      (child-tree e cs x.1 c.requires.live own, (child-tree e ds d.1 c.requires.config other, c.requires.alike e x.1 d.1 own other)),
    )

pub over_found-overflow_add-next : goal.over_found-overflow_add-next
over_found-overflow_add-next t c =
    let cs = c.args.live.now in
    let ds = c.args.config.now.items in
    let ks = c.as_slice-fill.result.now in
    let l = c.loop-i in
    let i = l.i-counter in
    let child = c.index-live-i.result in
    let all : List Child = c.in_ok-parts.parts.own.items in
    let lent : c.replace.result.items ≡ ds = ap (λ (v : Children). v.items) c.replace.ensures.value in
    let own_are : all ≡ filter (is_old cs) ds = c.in_ok-parts.ensures.own ∙ ap (filter (is_old cs)) lent in
    let turns : AreTurns cs ds ks all = subst₂ (λ d k. AreTurns cs d k all) lent (sym c.as_slice-fill.ensures.keys) c.in_ok-parts.ensures.turns in
    let among = refilled-among cs ds ks all i child c.requires.apart c.loop-i-test.true c.index-live-i.is own_are turns in
    let test : list_any (nat_eq i) ks ≡ c.contains.result = ap (list_any (nat_eq i)) c.as_slice-fill.ensures.keys ∙ sym c.contains.ensures in
    let d = c.unwrap-element.result in
    let later = c.pop_front.new.self.items in
    let comes : l.own.items ≡ d ∷ later = c.pop_front.ensures.items ∙ ap (λ o. option_to_list o ++ later) c.unwrap-element.ensures in
    let within : l.next < length ks = turn-within cs ds l.own.items ks i l.next l.merged.items child c.requires.apart c.loop-i-test.true c.index-live-i.is
    l.invariant d later comes in
    omega arith

pub over_found-loop-i-preserved : goal.over_found-loop-i-preserved
over_found-loop-i-preserved t c =
    let cs = c.args.live.now in
    let ds = c.args.config.now.items in
    let ks = c.as_slice-fill.result.now in
    let l = c.loop-i in
    let i = l.i-counter in
    let child = c.index-live-i.result in
    let all : List Child = c.in_ok-parts.parts.own.items in
    let lent : c.replace.result.items ≡ ds = ap (λ (v : Children). v.items) c.replace.ensures.value in
    let own_are : all ≡ filter (is_old cs) ds = c.in_ok-parts.ensures.own ∙ ap (filter (is_old cs)) lent in
    let turns : AreTurns cs ds ks all = subst₂ (λ d k. AreTurns cs d k all) lent (sym c.as_slice-fill.ensures.keys) c.in_ok-parts.ensures.turns in
    let among = refilled-among cs ds ks all i child c.requires.apart c.loop-i-test.true c.index-live-i.is own_are turns in
    let test : list_any (nat_eq i) ks ≡ c.contains.result = ap (list_any (nat_eq i)) c.as_slice-fill.ensures.keys ∙ sym c.contains.ensures in
    elim c.if-contains.branch [
      | over_found-then-contains+in_ok-over_node+in_ok-push w ↦
          let on : is_among (element_view child.0) (elements ds) ≡ true = sym among ∙ test ∙ w.if-contains.true in
          let d : Child = w.unwrap-element.result in
          let later : List Child = w.pop_front.new.self.items in
          let comes : l.own.items ≡ d ∷ later = w.pop_front.ensures.items ∙ ap (λ o. option_to_list o ++ later) w.unwrap-element.ensures in
          let placed = turn-place cs ds l.own.items ks i l.next l.merged.items child c.requires.apart c.loop-i-test.true c.index-live-i.is l.invariant d later
          comes 0 in
          let b = get_or cs (get_or ks l.next 0) w.index-live-place.result in
          let own = placed-child (element_view d.0) cs (get_or ks l.next 0) w.index-live-place.result placed in
          let pushed = ap (λ (v : Children). v.items) w.merged-is ∙ w.in_ok-push.ensures.items in
          let left : c.if-contains.own.items ≡ later = cc in
          subst₂ (λ q n. IsRefilling cs ds q ks (i + 1) n c.if-contains.merged.items) (sym left) (sym w.next-is)
          (refilling-own cs ds l.own.items ks i l.next l.merged.items child c.requires.apart c.loop-i-test.true c.index-live-i.is l.invariant d later comes
          b.1 (d.0, w.over_node.new.config) c.if-contains.merged.items on own w.in_ok-over_node.ensures refl pushed)
      | over_found-else-contains+in_ok-push_copy w ↦
          let off : is_among (element_view child.0) (elements ds) ≡ false = sym among ∙ test ∙ w.if-contains.false in
          let x = w.in_ok-push_copy.ensures in
          let pushed = ap (λ (v : Children). v.items) w.merged-is ∙ x.3 in
          let own = child-at-index cs i child c.loop-i-test.true c.index-live-i.is c.requires.apart in
          let left : c.if-contains.own.items ≡ l.own.items = cc in
          subst₂ (λ q n. IsRefilling cs ds q ks (i + 1) n c.if-contains.merged.items) (sym left) (sym w.next-is)
          (refilling-copied cs ds l.own.items ks i l.next l.merged.items child c.requires.apart c.loop-i-test.true c.index-live-i.is l.invariant x.0
          c.if-contains.merged.items off (child-tree (element_view child.0) cs child.1 c.requires.live own) x.1 x.2 pushed)
    ]

pub over_found-returns : goal.over_found-returns
over_found-returns t c =
    let cs = c.args.live.now in
    let ds = c.args.config.now.items in
    let new = c.in_ok-parts.ensures.new ∙ ap (λ (v : Children). filter (is_new cs) v.items) c.replace.ensures.value in
    refilling-end cs ds c.loop-i.own.items c.as_slice-fill.result.now c.loop-i.i-counter c.loop-i.next c.loop-i.merged.items c.in_ok-parts.parts.new.items
    c.append.new.self.items c.loop-i-test.false c.requires.config_apart c.requires.config c.loop-i.invariant new c.in_ok-append.ensures.items

pub over_node-returns-in-Leaf : goal.over_node-returns-in-Leaf
over_node-returns-in-Leaf t c =
    let n = c.args.live.now in
    let m = c.args.config.now in
    left-over n m m _ c.in-Leaf.is (leaf-over n m c.requires.live c.requires.config c.requires.alike c.in-Leaf.field-0 c.in-Leaf.is)

pub over_node-over_fields-requires : goal.over_node-over_fields-requires
over_node-over_fields-requires t c =
    let n = c.args.live.now in
    let m = c.args.config.now in
    let is = c.in-Branch.is ∙ ap TheVariants.Branch (sym c.in-Branch.children-is) in
    let under = ap below is ∙ below-Branch _ in
    let own = c.children.ensures.own in
    let small = live-smaller n m c.children.result.now _ own under c.requires.live c.requires.config c.requires.alike in (
      search (rules, small),
      (
        c.children.ensures.trees c.requires.live,
        (
          config-trees n m c.children.result.now _ own under c.requires.live c.requires.config c.requires.alike,
          (
            live-fields-rise n m _ c.children.result.now own c.requires.live c.requires.alike is,
            (
              record-rises _ _ is c.requires.config,
              children-alike n m c.children.result.now _ own under
                  c.requires.live c.requires.config c.requires.alike,
            ),
          ),
        ),
      ),
    )

pub over_node-returns-in-Branch : goal.over_node-returns-in-Branch
over_node-returns-in-Branch t c =
    let n = c.args.live.now in
    let m = c.args.config.now in
    let is = c.in-Branch.is ∙ ap TheVariants.Branch (sym c.in-Branch.children-is) in
    ok-gives c.over_fields.result c.over_fields.ensures
    (λ h. left-over n m _ (TheVariants.Branch c.over_fields.new.config) (rw (c.in-Branch.is, TheVariants.outs-Branch c.in-Branch.children) refl)
    (record-over n m c.requires.live c.requires.config c.requires.alike c.over_fields.new.config _ is (order-live _ _ _ _ c.children.ensures.own h)))

pub over_node-over_fields-requires-in-Dict : goal.over_node-over_fields-requires-in-Dict
over_node-over_fields-requires-in-Dict t c =
    let n = c.args.live.now in
    let m = c.args.config.now in
    let is = c.in-Dict.is ∙ ap TheVariants.Dict (sym c.in-Dict.children-is) in
    let under = ap below is ∙ below-Dict _ in
    let own = c.children-in-Dict.ensures.own in
    let small = live-smaller n m c.children-in-Dict.result.now _ own under c.requires.live c.requires.config c.requires.alike in (
      search (rules, small),
      (
        c.children-in-Dict.ensures.trees c.requires.live,
        (
          config-trees n m c.children-in-Dict.result.now _ own under c.requires.live c.requires.config c.requires.alike,
          (
            live-entries-rise n m _ c.children-in-Dict.result.now own c.requires.live c.requires.alike is,
            (
              dict-rises _ _ is c.requires.config,
              children-alike n m c.children-in-Dict.result.now _ own
                  under c.requires.live c.requires.config c.requires.alike,
            ),
          ),
        ),
      ),
    )

pub over_node-returns-in-Dict : goal.over_node-returns-in-Dict
over_node-returns-in-Dict t c =
    let n = c.args.live.now in
    let m = c.args.config.now in
    let is = c.in-Dict.is ∙ ap TheVariants.Dict (sym c.in-Dict.children-is) in
    ok-gives c.over_fields-in-Dict.result c.over_fields-in-Dict.ensures
    (λ h. left-over n m _ (TheVariants.Dict c.over_fields-in-Dict.new.config) (rw (c.in-Dict.is, TheVariants.outs-Dict c.in-Dict.children) refl)
    (dict-over n m c.requires.live c.requires.config c.requires.alike c.over_fields-in-Dict.new.config _ is
    (order-live _ _ _ _ c.children-in-Dict.ensures.own h)))

pub over_node-over_items-requires : goal.over_node-over_items-requires
over_node-over_items-requires t c =
    let n = c.args.live.now in
    let m = c.args.config.now in
    let is = c.in-List.is ∙ ap TheVariants.List (sym c.in-List.children-is) in
    let under = ap below is ∙ below-List _ in
    let own = c.children-in-List.ensures.own in
    let small = live-smaller n m c.children-in-List.result.now _ own under c.requires.live c.requires.config c.requires.alike in (
      search (rules, small),
      (
        c.children-in-List.ensures.trees c.requires.live,
        (
          config-trees n m c.children-in-List.result.now _ own under c.requires.live c.requires.config c.requires.alike,
          (
            c.children-in-List.ensures.apart c.requires.live,
            (
              config-apart n m c.children-in-List.result.now _ own under c.requires.live c.requires.config
                  c.requires.alike,
              children-alike n m c.children-in-List.result.now _ own under c.requires.live c.requires.config c.requires.alike,
            ),
          ),
        ),
      ),
    )

pub over_node-returns-in-List : goal.over_node-returns-in-List
over_node-returns-in-List t c =
    let n = c.args.live.now in
    let m = c.args.config.now in
    let is = c.in-List.is ∙ ap TheVariants.List (sym c.in-List.children-is) in
    ok-gives c.over_items.result c.over_items.ensures
    (λ h. left-over n m _ (TheVariants.List c.over_items.new.config) (rw (c.in-List.is, TheVariants.outs-List c.in-List.children) refl)
    (list-over n m c.requires.live c.requires.config c.requires.alike c.over_items.new.config _ is (over-live _ _ _ _ c.children-in-List.ensures.own h)))

pub over_placed-index_mut-own-requires : goal.over_placed-index_mut-own-requires
over_placed-index_mut-own-requires t c =
    let v = c.loop-i.config in
    let ds = c.args.config.now.items in
    let many = as-many-told c.args.live.now ds c.args.places.now c.requires.places in
    let there = placed-within c.args.live.now ds v.items c.loop-i.i (omega arith) c.loop-i.invariant in
    omega (arith, there, v.ok.0)

pub over_placed-bounds-live-place : goal.over_placed-bounds-live-place
over_placed-bounds-live-place t c =
    let cs = c.args.live.now in
    let ds = c.args.config.now.items in
    let many = as-many-told cs ds c.args.places.now c.requires.places in
    let d = c.index_mut-own.result.now in
    let told = next-told cs ds c.loop-i.config.items c.loop-i.i (omega arith) c.loop-i.invariant d c.index_mut-own.ensures.value c.args.places.now
    c.requires.places c.unwrap-place.result c.unwrap-place.ensures in
    place-within (element_view d.0) cs c.unwrap-place.result told

pub over_placed-offset_bounds-live-place : goal.over_placed-offset_bounds-live-place
over_placed-offset_bounds-live-place t c =
    let cs = c.args.live.now in
    let ds = c.args.config.now.items in
    let many = as-many-told cs ds c.args.places.now c.requires.places in
    let d = c.index_mut-own.result.now in
    let told = next-told cs ds c.loop-i.config.items c.loop-i.i (omega arith) c.loop-i.invariant d c.index_mut-own.ensures.value c.args.places.now
    c.requires.places c.unwrap-place.result c.unwrap-place.ensures in
    let there = place-within (element_view d.0) cs c.unwrap-place.result told in
    omega arith

pub over_placed-over_node-requires : goal.over_placed-over_node-requires
over_placed-over_node-requires t c =
    let cs = c.args.live.now in
    let ds = c.args.config.now.items in
    let many = as-many-told cs ds c.args.places.now c.requires.places in
    let d = c.index_mut-own.result.now in
    let e = element_view d.0 in
    let place = c.unwrap-place.result in
    let told = next-told cs ds c.loop-i.config.items c.loop-i.i (omega arith) c.loop-i.invariant d c.index_mut-own.ensures.value c.args.places.now
    c.requires.places c.unwrap-place.result c.unwrap-place.ensures in
    let x = get_or cs place c.index-live-place.result in
    let own : child_at e cs ≡ Some x.1 = placed-child e cs place c.index-live-place.result told in
    let other = next-there cs ds c.loop-i.config.items c.loop-i.i c.requires.config_apart (omega arith) c.loop-i.invariant d c.index_mut-own.ensures.value in
    let part = larger-children e cs x.1 own in
    let small : 4 * length (rows x.1) < 4 * length (rows_below cs) + 1 = omega arith in (
      search (rules, small),
      (child-tree e cs x.1 c.requires.live own, (child-tree e ds d.1 c.requires.config other, c.requires.alike e x.1 d.1 own other)),
    )

pub over_placed-loop-i-preserved : goal.over_placed-loop-i-preserved
over_placed-loop-i-preserved t c =
    let cs = c.args.live.now in
    let ds = c.args.config.now.items in
    let many = as-many-told cs ds c.args.places.now c.requires.places in
    let d = c.index_mut-own.result.now in
    let e = element_view d.0 in
    let place = c.unwrap-place.result in
    let told = next-told cs ds c.loop-i.config.items c.loop-i.i (omega arith) c.loop-i.invariant d c.index_mut-own.ensures.value c.args.places.now
    c.requires.places c.unwrap-place.result c.unwrap-place.ensures in
    let x = get_or cs place c.index-live-place.result in
    let own : child_at e cs ≡ Some x.1 = placed-child e cs place c.index-live-place.result told in
    placed-over cs ds c.loop-i.config.items c.loop-i.i c.requires.config_apart (omega arith) c.loop-i.invariant d c.index_mut-own.ensures.value x.1
    c.over_node.new.config _ own c.in_ok-over_node.ensures refl

pub over_placed-returns : goal.over_placed-returns
over_placed-returns t c =
    let cs = c.args.live.now in
    let ds = c.args.config.now.items in
    let many = as-many-told cs ds c.args.places.now c.requires.places in
    placed-all cs ds (subst (All IsFound) c.requires.places c.requires.found) c.loop-i.config.items c.loop-i.i c.requires.config_apart c.requires.many
    (omega arith) c.loop-i.invariant
