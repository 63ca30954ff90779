use Rattle.std.proofs.Common.{◌∙◌, ◌&&◌, true, Some, None, refl, ap, sym, subst, arith, rules}
use Rattle.std.proofs.lemmas.List.{take_all}
use Rattle.std.specs.Bool.{MatchBool}
use Rattle.std.specs.Option.{option_copied}
use Rattle.ssa_path.specs.declared.trie.Trie.{the_lemmas}
use Rattle.ssa_path.specs.declared.trie.Trie.TheViews.{out-Trie}
use Rattle.ssa_path.specs.Children.{child_at}
use Rattle.ssa_path.specs.View.{element_view}
use Rattle.ssa_path.specs.Trie.{paths, is_trie, AreApart, Meet}
use Rattle.ssa_path.proofs.Levels.{is_trie-child, trie-parts}
use Rattle.ssa_path.proofs.Orders.{both_first}
use Rattle.ssa_path.proofs.Lists.{filled-at}
use Rattle.ssa_path.proofs.LyingWithin.{told-child}
use Rattle.ssa_path.proofs.Meeting.{ShareNone, apart-all, apart-more}
use Rattle.ssa_path.proofs.within.+share_path.Goals as goal
use Rattle.ssa_path.proofs.within.+share_path.Goals.{else-own-via-then-own+else-other, else-own-via-else-own, in-Some+else-share_path, in_default}

pub find_child-requires : goal.find_child-requires
find_child-requires t c = (trie-parts c.args.other.now c.deref.result.now c.deref.ensures.value c.requires.other).0

pub share_path-requires : goal.share_path-requires
share_path-requires t c =
    let cs = c.deref-child-items.result.now in
    let filled = filled-at cs c.loop-child.child-index c.child-item.result (omega arith) c.child-item.is
    (trie-parts c.args.own.now cs c.deref-child-items.ensures.value c.requires.own).1 in
    let at = ap (child_at (element_view c.child-item.result.0)) (sym c.deref.ensures.value) ∙ sym c.find_child.ensures ∙ ap option_copied c.in-Some.is in (
      search (rules, the_lemmas),
      (
        both_first (is_trie c.child-item.result.1) _ filled,
        is_trie-child c.args.other.now (element_view c.child-item.result.0) c.in-Some.place.now c.requires.other at,
      ),
    )

pub returns-then-share_path : goal.returns-then-share_path
returns-then-share_path t c =
    let cs = c.deref-child-items.result.now in
    let place = c.in-Some.place.now in
    told-child true c.args.own.now c.args.other.now cs c.loop-child.child-index c.child-item.result place c.deref-child-items.ensures.value (omega arith)
    c.child-item.is c.requires.other
    (ap (child_at (element_view c.child-item.result.0)) (sym c.deref.ensures.value) ∙ sym c.find_child.ensures ∙ ap option_copied c.in-Some.is)
    (subst (λ b. MatchBool b (Meet (paths c.child-item.result.1) (paths place)) (AreApart (paths c.child-item.result.1) (paths place)))
    c.if-share_path.true c.share_path.ensures)

pub loop-child-preserved : goal.loop-child-preserved
loop-child-preserved t c =
    let cs = c.deref-child-items.result.now in
    let ds = (out-Trie c.args.other.now).below.items in
    let child = c.child-item.result in
    let rise = (trie-parts c.args.other.now ds refl c.requires.other).0 in
    let at = ap (child_at (element_view child.0)) (sym c.deref.ensures.value) ∙ sym c.find_child.ensures in
    elim c.match-find_child.branch [
      | in-Some+else-share_path w ↦
          let place = w.in-Some.place.now in
          apart-more cs ds c.loop-child.child-index child (Some place) (omega arith) c.child-item.is rise (at ∙ ap option_copied w.in-Some.is)
          (subst (λ b. MatchBool b (Meet (paths child.1) (paths place)) (AreApart (paths child.1) (paths place))) w.if-share_path.false w.share_path.ensures)
          c.loop-child.invariant
      | in_default w ↦ apart-more cs ds c.loop-child.child-index child None (omega arith) c.child-item.is rise (at ∙ ap option_copied w.in_default.is)
          (λ p h. refl) c.loop-child.invariant
    ]

pub returns : goal.returns
returns t c =
    let cs = c.deref-child-items.result.now in
    let ds = (out-Trie c.args.other.now).below.items in
    let all = take_all c.loop-child.child-index cs c.loop-child-test.false in
    apart-all c.args.own.now c.args.other.now cs ds c.deref-child-items.ensures.value refl
    (elim c.else-own.branch [
      | else-own-via-then-own+else-other w ↦ λ i. w.if-own.true i && w.if-other.false i
      | else-own-via-else-own w ↦ ap (λ b. b && (out-Trie c.args.other.now).here) w.if-own.false
    ])
    (subst (λ l. ShareNone l ds) all c.loop-child.invariant)
