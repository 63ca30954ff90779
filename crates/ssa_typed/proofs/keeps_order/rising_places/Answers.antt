use Rattle.std.proofs.Common.{◌+◌, arith, refl, subst, sym}
use Rattle.ssa_path.specs.View.{element_view}
use Rattle.ssa_typed.proofs.InOneOrder.{IsOrderedSoFar, never-ordered, ordered-end, ordered-past, ordered-past-new, ordered-start}
use Rattle.ssa_typed.proofs.SortedOut.{place-within}
use Rattle.ssa_typed.proofs.keeps_order.rising_places.Goals as goal
use Rattle.ssa_typed.proofs.keeps_order.rising_places.Goals.{in-Some+else-place-next, in-None}

pub loop-child-init : goal.loop-child-init
loop-child-init c = (ordered-start c.args.live.now c.args.config.now, (refl, c.requires.apart))

pub overflow_add-next : goal.overflow_add-next
overflow_add-next c =
    let within = place-within (element_view c.child-item.result.0) c.args.live.now c.in-Some.place c.in-Some.ensures in
    omega arith

pub returns-then-place-next-clause-order : goal.returns-then-place-next-clause-order
returns-then-place-next-clause-order c =
    sym (never-ordered c.args.live.now c.args.config.now c.loop-child.next c.loop-child.child-index c.child-item.result c.requires.apart c.loop-child-test.true
    c.child-item.is c.loop-child.invariant.0 c.in-Some.place c.in-Some.ensures c.if-place-next.true)

pub loop-child-preserved : goal.loop-child-preserved
loop-child-preserved c =
    let cs = c.args.live.now in
    let ds = c.args.config.now in
    let n = c.loop-child.next in
    let j = c.loop-child.child-index in
    let d = c.child-item.result in (
      elim c.match-found.branch [
        | in-Some+else-place-next w ↦
            subst (λ k. IsOrderedSoFar cs ds k (j + 1)) (sym w.next-is)
            (ordered-past cs ds n j d c.requires.apart c.loop-child-test.true c.child-item.is c.loop-child.invariant.0 w.in-Some.place w.in-Some.ensures
            w.if-place-next.false)
        | in-None w ↦
            subst (λ k. IsOrderedSoFar cs ds k (j + 1)) (sym w.next-is)
            (ordered-past-new cs ds n j d c.requires.apart c.loop-child-test.true c.child-item.is c.loop-child.invariant.0 w.in-None.ensures)
      ],
      c.in_ok-places.ensures,
    )

pub returns-clause-order : goal.returns-clause-order
returns-clause-order c =
    sym (ordered-end c.args.live.now c.args.config.now c.loop-child.next c.loop-child.child-index c.loop-child-test.false c.loop-child.invariant.0)
