use Rattle.std.proofs.Common.{◌≡◌, ◌<◌, ◌+◌, ap, arith, false, get_or, is_some, length, not, refl, rules, subst, subst₂, sym, Some, true≢false, ◌∙◌}
use Rattle.ssa_model.proofs.Basics.{not_true}
use Rattle.ssa_path.specs.Children.{child_at}
use Rattle.ssa_path.specs.View.{element_view}
use Rattle.std.specs.Prelude.{IfSome}
use Rattle.ssa_typed.specs.KeepsOrder.{ChildrenKeepOrder}
use Rattle.ssa_typed.specs.MergedOrder.{ArePlacesOf}
use Rattle.ssa_typed.specs.Rows.{below, rows}
use Rattle.ssa_typed.proofs.InOneOrder.{placed-child}
use Rattle.ssa_typed.proofs.KeepingOrder.{keeps-all, keeps-none, keeps-past, keeps-past-new, order-below, order-here, order-level}
use Rattle.ssa_typed.proofs.Lookups.{tree-child}
use Rattle.ssa_typed.proofs.Overlaying.{child-at-index}
use Rattle.ssa_typed.proofs.Sizes.{smaller}
use Rattle.ssa_typed.proofs.SortedOut.{place-within}
use Rattle.ssa_typed.proofs.keeps_order.+keeps_order.Goals.{in-Some-find_near+in_ok-keeps_order-in-Some-find_near+else-not-branch, in-None}
use Rattle.ssa_typed.proofs.keeps_order.+keeps_order.Goals as goal

pub bounds-own-place : goal.bounds-own-place
bounds-own-place t c = place-within (element_view c.child-item.result.0) c.children-own.result.now c.in-Some-find_near.place c.in-Some-find_near.ensures

pub offset_bounds-own-place : goal.offset_bounds-own-place
offset_bounds-own-place t c =
    let within = place-within (element_view c.child-item.result.0) c.children-own.result.now c.in-Some-find_near.place c.in-Some-find_near.ensures in
    omega arith

pub keeps_order-requires : goal.keeps_order-requires
keeps_order-requires t c =
    let n = c.args.live.now in
    let m = c.args.config.now in
    let d = c.child-item.result in
    let e = element_view d.0 in
    let cs = c.children-own.result.now in
    let ds = c.children-others.result.now in
    let x = get_or cs c.in-Some-find_near.place c.index-own-place.result in
    let own : child_at e (below n) ≡ Some x.1 = ap (child_at e) (sym c.children-own.ensures.own)
    ∙ placed-child e cs c.in-Some-find_near.place c.index-own-place.result c.in-Some-find_near.ensures in
    let other : child_at e (below m) ≡ Some d.1 = ap (child_at e) (sym c.children-others.ensures.own)
    ∙ child-at-index ds c.loop-child.child-index d c.loop-child-test.true c.child-item.is (c.children-others.ensures.apart c.requires.config) in
    let small : length (rows x.1) < length (rows n) = smaller n e x.1 own in
    (search (rules, small), (tree-child n e x.1 c.requires.live own, tree-child m e d.1 c.requires.config other))

pub returns-then-not-branch : goal.returns-then-not-branch
returns-then-not-branch t c =
    let n = c.args.live.now in
    let m = c.args.config.now in
    let d = c.child-item.result in
    let e = element_view d.0 in
    let cs = c.children-own.result.now in
    let ds = c.children-others.result.now in
    let x = get_or cs c.in-Some-find_near.place c.index-own-place.result in
    let own : child_at e (below n) ≡ Some x.1 = ap (child_at e) (sym c.children-own.ensures.own)
    ∙ placed-child e cs c.in-Some-find_near.place c.index-own-place.result c.in-Some-find_near.ensures in
    let other : child_at e (below m) ≡ Some d.1 = ap (child_at e) (sym c.children-others.ensures.own)
    ∙ child-at-index ds c.loop-child.child-index d c.loop-child-test.true c.child-item.is (c.children-others.ensures.apart c.requires.config) in (
      λ h. absurd (true≢false (sym h)),
      λ order. absurd (true≢false (sym (c.in_ok-keeps_order-in-Some-find_near.ensures.1 (order-below n m c.requires.live c.requires.config order e x.1 d.1 own other))
          ∙ c.if-not-branch.true)),
    )

pub overflow_add-near : goal.overflow_add-near
overflow_add-near t c =
    let within = place-within (element_view c.child-item.result.0) c.children-own.result.now c.in-Some-find_near.place c.in-Some-find_near.ensures in
    omega arith

pub loop-child-init : goal.loop-child-init
loop-child-init t c = keeps-none c.children-own.result.now c.children-others.result.now

pub loop-child-preserved : goal.loop-child-preserved
loop-child-preserved t c =
    let cs = c.children-own.result.now in
    let ds = c.children-others.result.now in
    let j = c.loop-child.child-index in
    let d = c.child-item.result in
    elim c.match-find_near.branch [
      | in-Some-find_near+in_ok-keeps_order-in-Some-find_near+else-not-branch w ↦
          keeps-past cs ds j d c.loop-child-test.true c.child-item.is c.loop-child.invariant (get_or cs w.in-Some-find_near.place w.index-own-place.result).1
          (placed-child (element_view d.0) cs w.in-Some-find_near.place w.index-own-place.result w.in-Some-find_near.ensures)
          (w.in_ok-keeps_order-in-Some-find_near.ensures.0 w.if-not-branch.false)
      | in-None w ↦ keeps-past-new cs ds j d c.loop-child-test.true c.child-item.is c.loop-child.invariant w.in-None.ensures
    ]

pub returns-in_default : goal.returns-in_default
returns-in_default t c =
    let none : is_some c.in_ok-places.field-0 ≡ false = search rules in (
      λ h. absurd (true≢false (sym h)),
      λ order. absurd (true≢false (sym (ap not (order-here c.args.live.now c.args.config.now order)) ∙ sym c.in_ok-places.ensures.order ∙ none)),
    )

pub find_near-requires-clause-places : goal.find_near-requires-clause-places
find_near-requires-clause-places t c =
    let there : ArePlacesOf (below c.args.live.now) c.in-Some.places = subst (λ o. IfSome o (ArePlacesOf (below c.args.live.now))) c.in-Some.is c.in_ok-places.ensures.places in
    subst (λ cs. ArePlacesOf cs c.in-Some.places) (sym c.children-own.ensures.own) there

pub returns : goal.returns
returns t c =
    let n = c.args.live.now in
    let m = c.args.config.now in
    let all = keeps-all c.children-own.result.now c.children-others.result.now c.loop-child.child-index c.loop-child-test.false c.loop-child.invariant in (
      λ h. order-level n m c.requires.live c.requires.config (not_true _ (sym c.in_ok-places.ensures.order ∙ ap is_some c.in-Some.is))
          (subst₂ ChildrenKeepOrder c.children-own.ensures.own c.children-others.ensures.own all),
      λ order. refl,
    )
