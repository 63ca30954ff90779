use Rattle.std.proofs.Common.{◌≡◌, get_or, ◌≤◌, ◌+◌, ◌*◌, ◌<◌, [], None, length, refl, sym, ap, subst, ◌∙◌, arith, rules}
use Rattle.std.proofs.lemmas.List.{drop_all, map-append}
use Rattle.std.specs.Borrow.{Bor}
use Rattle.ssa_path.specs.Listing.{way_view}
use Rattle.ssa_path.specs.View.{element_view}
use Rattle.ssa_path.specs.declared.element.Elem.{Elem}
use Rattle.ssa_path.proofs.Levels.{child-tests, one-below-root, trie-parts}
use Rattle.ssa_typed.specs.Rows.{below, rows}
use Rattle.ssa_typed.proofs.Sizes.{smaller}
use Rattle.ssa_turn_body.specs.Applying.{IsApplying, IsMet, MayPart, behind, gone_below}
use Rattle.ssa_turn_body.specs.Turnovers.{MayTurnOver, is_still, passing}
use Rattle.ssa_turn_body.proofs.Leaving.{behind-trie, here-gone, leaving-all, may-child, may-without, none-behind, unlooked-applying}
use Rattle.ssa_turn_body.proofs.Meeting.{IsMeeting, meeting-count, meeting-goes, meeting-start, meeting-stays, meeting-there, meeting-tree}
use Rattle.ssa_turn_body.proofs.going.+going.Goals as goal
use Rattle.ssa_turn_body.proofs.going.+going.Goals.{without-then-branch, without-else-branch}

-- ---- a child left alone

pub leave_alone-returns-in_default-clause-met : goal.leave_alone-returns-in_default-clause-met
leave_alone-returns-in_default-clause-met t c =
    let gone = c.args.gone.now in
    let e = element_view c.args.child.now.0 in
    let none = sym c.in_default.ensures in (
      refl,
      unlooked-applying _ (behind e (gone_below gone)) c.args.child.now.1 c.args.steps.now.items c.requires.tree
          (none-behind gone c.requires.rise e none),
    )

pub leave_alone-returns-then-lost-clause-met : goal.leave_alone-returns-then-lost-clause-met
leave_alone-returns-then-lost-clause-met t c =
    let there = sym c.in-Some.ensures in
    (refl, c.in_ok-goes.ensures, here-gone c.args.gone.now c.requires.rise (element_view c.args.child.now.0) c.in-Some.lost.now there ∙ c.if-lost.true, refl)

pub leave_alone-without-requires : goal.leave_alone-without-requires
leave_alone-without-requires t c =
    let gone = c.args.gone.now in
    let e = element_view c.args.child.now.0 in
    let child = c.args.child.now.1 in
    let trie = c.in-Some.lost.now in
    let there = sym c.in-Some.ensures in
    let parts = trie-parts trie c.deref.result.now c.deref.ensures.value (child-tests e gone trie c.requires.tries there) in
    let same = behind-trie gone c.requires.rise e trie there c.if-lost.false ∙ ap gone_below (sym c.deref.ensures.value) in
    let small : 2 * length (rows child) < 2 * length (rows child) + 1 = omega arith in
    (search (rules, small), (c.requires.tree, (parts.0, (parts.1, subst (λ g. MayPart g child None) same c.requires.may))))

pub leave_alone-returns-clause-met : goal.leave_alone-returns-clause-met
leave_alone-returns-clause-met t c =
    let gone = c.args.gone.now in
    let e = element_view c.args.child.now.0 in
    let child = c.args.child.now.1 in
    let trie = c.in-Some.lost.now in
    let there = sym c.in-Some.ensures in
    let same = behind-trie gone c.requires.rise e trie there c.if-lost.false ∙ ap gone_below (sym c.deref.ensures.value) in
    let way = ap way_view c.in_ok-push.ensures.items ∙ map-append (λ (r : Bor Elem). element_view r.now) c.args.way.now.items _ in
    let led = c.in_ok-without.ensures.applied in (
      refl,
      subst (λ p. IsApplying p (behind e (gone_below gone)) child None c.args.steps.now.items c.without.new.steps.items) way
          (subst (λ g. IsApplying (way_view c.push.new.self.items) g child None c.args.steps.now.items c.without.new.steps.items) (sym same) led),
    )

-- ---- the walk over the children of a place

pub without-loop-i-init : goal.without-loop-i-init
without-loop-i-init t c = record {
  way = refl;
  meeting = meeting-start (way_view c.args.way.now.items) (gone_below c.args.gone.now) c.args.live.now [] c.args.steps.now.items
      (passing c.none-turnover.result)
      c.none-turnover.ensures;
}

pub without-leave_alone-requires : goal.without-leave_alone-requires
without-leave_alone-requires t c =
    let n = c.args.live.now in
    let gone = gone_below c.args.gone.now in
    let child = c.child-item.result in
    let e = element_view child.0 in
    let own = c.children-child-items.ensures.own in
    let l = c.loop-i in
    let lt : l.i < length (below n) = subst (λ xs. l.i < length xs) own c.loop-i-test.true in
    let is = subst (λ xs. child ≡ get_or xs l.i child) own c.child-item.is in
    let there = meeting-there _ gone n [] _ l.i l.count _ _ l.invariant.meeting c.requires.tree child lt is in
    let part = smaller n e child.1 there in
    let small : 2 * length (rows child.1) + 1 < 2 * length (rows n) = omega arith in (
      search (rules, small),
      (
        meeting-tree _ gone n [] _ l.i l.count _ _ l.invariant.meeting c.requires.tree child lt is,
        (
          c.requires.rise,
          (
            c.requires.tries,
            may-child gone n [] e child.1 c.requires.tree there (may-without gone n (one-below-root c.args.gone.now) c.requires.may),
          ),
        ),
      ),
    )

pub without-overflow_add-count : goal.without-overflow_add-count
without-overflow_add-count t c =
    let l = c.loop-i in
    let few = meeting-count _ _ _ _ _ l.i l.count _ _ l.invariant.meeting in
    omega (arith, few, c.loop-i-test.true, c.children-child-items.type_inv)

pub without-loop-i-preserved : goal.without-loop-i-preserved
without-loop-i-preserved t c =
    let n = c.args.live.now in
    let gone = gone_below c.args.gone.now in
    let child = c.child-item.result in
    let own = c.children-child-items.ensures.own in
    let l = c.loop-i in
    let p = way_view c.args.way.now.items in
    let old = c.args.steps.now.items in
    let u = passing c.leave_alone.new.turnover in
    let steps2 = c.leave_alone.new.steps.items in
    let lt : l.i < length (below n) = subst (λ xs. l.i < length xs) own c.loop-i-test.true in
    let is = subst (λ xs. child ≡ get_or xs l.i child) own c.child-item.is in
    let given = c.in_ok-leave_alone.ensures in
    let left = subst (λ q. IsMet c.in_ok-leave_alone.field-0 l.i q gone child None (passing l.turnover) u l.steps.items steps2) (ap way_view l.invariant.way)
    given.met in
    record {
      way = given.way ∙ l.invariant.way;
      meeting =
          elim c.if-branch.branch [
            | without-then-branch w ↦
                subst (λ k. IsMeeting p gone n [] old (l.i + 1) k u steps2) (sym w.count-is)
                (meeting-stays p gone n [] old l.i l.count (passing l.turnover) l.steps.items l.invariant.meeting c.requires.tree child lt is u steps2
                (subst (λ b. IsMet b l.i p gone child None (passing l.turnover) u l.steps.items steps2) w.if-branch.true left))
            | without-else-branch w ↦
                subst (λ k. IsMeeting p gone n [] old (l.i + 1) k u steps2) (sym w.count-is)
                (meeting-goes p gone n [] old l.i l.count (passing l.turnover) l.steps.items l.invariant.meeting c.requires.tree child lt is u steps2
                (subst (λ b. IsMet b l.i p gone child None (passing l.turnover) u l.steps.items steps2) w.if-branch.false left))
          ];
    }

pub without-returns-clause-way : goal.without-returns-clause-way
without-returns-clause-way t c = c.loop-i.invariant.way

pub without-returns-clause-applied : goal.without-returns-clause-applied
without-returns-clause-applied t c =
    let n = c.args.live.now in
    let gone = gone_below c.args.gone.now in
    let l = c.loop-i in
    let p = way_view c.args.way.now.items in
    let end = drop_all l.i (below n) (subst (λ xs. length xs ≤ l.i) c.children-child-items.ensures.own c.loop-i-test.false) in
    let turned =
    subst (λ q. MayTurnOver (is_still (passing l.turnover)) q (passing l.turnover) l.count l.steps.items c.push_edit.new.steps.items)
    (ap way_view (c.deref.ensures.value ∙ l.invariant.way)) c.in_ok-push_edit.ensures in
    leaving-all p gone n c.args.steps.now.items l.i l.count (passing l.turnover) l.steps.items c.push_edit.new.steps.items c.requires.tree
    (one-below-root c.args.gone.now) c.requires.may l.invariant.meeting end turned
