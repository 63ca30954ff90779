use Rattle.std.proofs.Common.{◌≡◌, ◌∙◌, [], false, length, refl, ap, sym, subst, arith, rules, true≢false}
use Rattle.std.proofs.lemmas.Bool.Decides.{nat_tests}
use Rattle.std.proofs.lemmas.List.{nil_from_length, take_all}
use Rattle.std.specs.Bool.{MatchBool}
use Rattle.std.specs.Option.{option_copied}
use Rattle.ssa_path.specs.declared.trie.Trie.{the_lemmas}
use Rattle.ssa_path.specs.declared.trie.Trie.TheViews.{out-Trie}
use Rattle.ssa_path.specs.Children.{child_at}
use Rattle.ssa_path.specs.View.{element_view}
use Rattle.ssa_path.specs.Trie.{paths, is_trie, Exceeds, IsWithin}
use Rattle.ssa_path.proofs.Levels.{one-level-root, is_trie-child, trie-parts}
use Rattle.ssa_path.proofs.Orders.{both_first, both_second}
use Rattle.ssa_path.proofs.Lists.{filled-at}
use Rattle.ssa_path.proofs.LyingWithin.{AreWithin, within-more, within-all, within-leaf, exceeds-none, told-child}
use Rattle.ssa_path.proofs.within.+lies_within.Goals as goal
use Rattle.ssa_path.proofs.within.+lies_within.Goals.{lies_within_near-else-own-via-then-own+else-not-other, lies_within_near-else-own-via-else-own}

pub lies_within_near-returns-then-not-other : goal.lies_within_near-returns-then-not-other
lies_within_near-returns-then-not-other t c = ([], one-level-root c.args.own.now ∙ c.if-own.true, one-level-root c.args.other.now ∙ c.if-not-other.true)

pub lies_within_near-loop-child-init : goal.lies_within_near-loop-child-init
lies_within_near-loop-child-init t c = λ e p h. absurd (true≢false (sym h))

pub lies_within_near-counterpart-requires : goal.lies_within_near-counterpart-requires
lies_within_near-counterpart-requires t c = (trie-parts c.args.other.now c.deref.result.now c.deref.ensures.value c.requires.other).0

pub lies_within_near-returns-in_default : goal.lies_within_near-returns-in_default
lies_within_near-returns-in_default t c =
    let cs = c.deref-child-items.result.now in
    let filled = filled-at cs c.loop-child.child-index c.child-item.result (omega arith) c.child-item.is
    (trie-parts c.args.own.now cs c.deref-child-items.ensures.value c.requires.own).1 in
    exceeds-none c.args.own.now c.args.other.now cs c.loop-child.child-index c.child-item.result c.deref-child-items.ensures.value (omega arith)
    c.child-item.is (both_second (is_trie c.child-item.result.1) _ filled) c.requires.other
    (ap (child_at (element_view c.child-item.result.0)) (sym c.deref.ensures.value) ∙ sym c.counterpart.ensures ∙ ap option_copied c.in_default.is)

pub lies_within_near-lies_there-requires : goal.lies_within_near-lies_there-requires
lies_within_near-lies_there-requires t c =
    let cs = c.deref-child-items.result.now in
    let filled = filled-at cs c.loop-child.child-index c.child-item.result (omega arith) c.child-item.is
    (trie-parts c.args.own.now cs c.deref-child-items.ensures.value c.requires.own).1 in
    let at = ap (child_at (element_view c.child-item.result.0)) (sym c.deref.ensures.value) ∙ sym c.counterpart.ensures ∙ ap option_copied c.in-Some.is in (
      search (rules, the_lemmas),
      (
        both_first (is_trie c.child-item.result.1) _ filled,
        is_trie-child c.args.other.now (element_view c.child-item.result.0) c.in-Some.place.now c.requires.other at,
      ),
    )

pub lies_within_near-returns-then-not-lies_there : goal.lies_within_near-returns-then-not-lies_there
lies_within_near-returns-then-not-lies_there t c =
    let cs = c.deref-child-items.result.now in
    let place = c.in-Some.place.now in
    told-child false c.args.own.now c.args.other.now cs c.loop-child.child-index c.child-item.result place c.deref-child-items.ensures.value (omega arith)
    c.child-item.is c.requires.other
    (ap (child_at (element_view c.child-item.result.0)) (sym c.deref.ensures.value) ∙ sym c.counterpart.ensures ∙ ap option_copied c.in-Some.is)
    (subst (λ b. MatchBool b (IsWithin (paths c.child-item.result.1) (paths place)) (Exceeds (paths c.child-item.result.1) (paths place)))
    c.if-not-lies_there.true c.lies_there.ensures)

pub lies_within_near-loop-child-preserved : goal.lies_within_near-loop-child-preserved
lies_within_near-loop-child-preserved t c =
    let cs = c.deref-child-items.result.now in
    let place = c.in-Some.place.now in
    within-more cs (out-Trie c.args.other.now).below.items c.loop-child.child-index c.child-item.result place (omega arith) c.child-item.is
    (trie-parts c.args.other.now _ refl c.requires.other).0
    (ap (child_at (element_view c.child-item.result.0)) (sym c.deref.ensures.value) ∙ sym c.counterpart.ensures ∙ ap option_copied c.in-Some.is)
    (subst (λ b. MatchBool b (IsWithin (paths c.child-item.result.1) (paths place)) (Exceeds (paths c.child-item.result.1) (paths place)))
    c.if-not-lies_there.false c.lies_there.ensures)
    c.loop-child.invariant

pub lies_within_near-returns : goal.lies_within_near-returns
lies_within_near-returns t c =
    let cs = c.deref-child-items.result.now in
    let all = take_all c.loop-child.child-index cs c.loop-child-test.false in
    within-all c.args.own.now c.args.other.now cs (out-Trie c.args.other.now).below.items c.deref-child-items.ensures.value refl
    (λ h. elim c.else-own.branch [
      | lies_within_near-else-own-via-then-own+else-not-other w ↦ w.if-not-other.false
      | lies_within_near-else-own-via-else-own w ↦ absurd (true≢false (sym h ∙ w.if-own.false))
    ])
    (subst (λ l. AreWithin l (out-Trie c.args.other.now).below.items) all c.loop-child.invariant)

-- ---- nothing below

pub lies_there-returns-else-not-own : goal.lies_there-returns-else-not-own
lies_there-returns-else-not-own t c =
    let v = (out-Trie c.args.own.now).below in
    let test = sym c.is_empty.ensures ∙ c.if-is_empty.true in
    let long = v.ok.0 in
    let none : length v.items ≡ 0 = grind (arith, nat_tests) in
    within-leaf c.args.own.now c.args.other.now (nil_from_length v.items none) c.if-not-own.false _ refl
