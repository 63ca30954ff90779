use Rattle.std.proofs.Common.{◌≡◌, ◌+◌, Bool, List, set, ◌&&◌, [], not, ap, sym, subst, ◌∙◌, drop, get_or, Some, Less, Equal, Greater, refl, arith, rules}
use Rattle.std.proofs.lemmas.List.{drop_all}
use Rattle.ssa_path.specs.Children.{child_at, heads_order}
use Rattle.ssa_path.specs.Combine.{is_concerned, IsCombination, IsCombined}
use Rattle.ssa_path.specs.declared.combine.Combination.TheVariants.{WithoutOver}
use Rattle.ssa_path.specs.Trie.{is_trie, paths}
use Rattle.ssa_path.specs.View.{element_view}
use Rattle.ssa_path.specs.declared.element.Elem.{Elem}
use Rattle.ssa_path.specs.declared.trie.Trie.{the_lemmas, Trie}
use Rattle.ssa_path.specs.declared.trie.Trie.TheViews.{out-Trie}
use Rattle.ssa_path.proofs.Levels.{any-root, trie-parts}
use Rattle.ssa_path.proofs.Lists.{child-trie, same-at}
use Rattle.ssa_path.proofs.Searching.{child-absent, child-found}
use Rattle.ssa_path.proofs.Combining.{combined-place, heads-none}
use Rattle.ssa_path.proofs.TakingOut.{taking-all, taking-both, taking-other, taking-own, found-all, found-both, found-next, found-own, IsTakingFound}
use Rattle.ssa_path.proofs.taking_out.+take_out_over.Goals as goal
use Rattle.ssa_path.proofs.taking_out.+take_out_over.Goals.{take_out_found-in-Ok, take_out_found-in_default, take_out_over-then-here, take_out_over-else-here}

-- ---- by one walk

pub take_out_beside-loop-order-preserved-in-Less : goal.take_out_beside-loop-order-preserved-in-Less
take_out_beside-loop-order-preserved-in-Less t c =
    let heads : heads_order (drop c.loop-order.i c.loop-order.own.items) (drop c.loop-order.j c.args.others.now) ≡ Some Less =
    ap (λ l. heads_order (drop c.loop-order.i l) (drop c.loop-order.j c.args.others.now)) (sym c.deref.ensures.value)
    ∙ sym c.order_at.ensures ∙ c.in-Some.is ∙ ap Some c.in-Less.is in
    taking-own c.args.own.now.items c.args.others.now c.loop-order.own.items c.loop-order.i c.loop-order.j c.loop-order.any_bare heads c.loop-order.invariant

pub take_out_beside-loop-order-preserved-in-Greater : goal.take_out_beside-loop-order-preserved-in-Greater
take_out_beside-loop-order-preserved-in-Greater t c =
    let heads : heads_order (drop c.loop-order.i c.loop-order.own.items) (drop c.loop-order.j c.args.others.now) ≡ Some Greater =
    ap (λ l. heads_order (drop c.loop-order.i l) (drop c.loop-order.j c.args.others.now)) (sym c.deref.ensures.value)
    ∙ sym c.order_at.ensures ∙ c.in-Some.is ∙ ap Some c.in-Greater.is in
    taking-other c.args.own.now.items c.args.others.now c.loop-order.own.items c.loop-order.i c.loop-order.j c.loop-order.any_bare heads c.loop-order.invariant

pub take_out_beside-loop-order-preserved : goal.take_out_beside-loop-order-preserved
take_out_beside-loop-order-preserved t c =
    let heads : heads_order (drop c.loop-order.i c.loop-order.own.items) (drop c.loop-order.j c.args.others.now) ≡ Some Equal =
    ap (λ l. heads_order (drop c.loop-order.i l) (drop c.loop-order.j c.args.others.now)) (sym c.deref.ensures.value)
    ∙ sym c.order_at.ensures ∙ c.in-Some.is ∙ ap Some c.in-Equal.is in
    let child = c.take_out_of_child-any_bare in
    taking-both c.args.own.now.items c.args.others.now c.loop-order.own.items c.loop-order.i c.loop-order.j c.loop-order.any_bare child.result
    c.index_mut.result.now c.index-others-j.result child.new.child heads c.index_mut.ensures.value c.index-others-j.is
    child.ensures.element
    (subst (λ (d : Elem × Trie). IsCombination WithoutOver c.index_mut.result.now.1 d.1 child.new.child.1) (sym c.index-others-j.is) child.ensures.made)
    child.ensures.bare c.loop-order.invariant

pub take_out_beside-take_out_bare-requires : goal.take_out_beside-take_out_bare-requires
take_out_beside-take_out_bare-requires t c =
    let none = heads-none _ _ (sym c.order_at.ensures ∙ c.in_default.is) in
    let left = ap (drop c.loop-order.i) (sym c.deref.ensures.value) ∙ none.0 in
    (taking-all c.args.own.now.items c.args.others.now c.loop-order.own.items c.loop-order.i c.loop-order.j c.loop-order.any_bare left none.1
    c.loop-order.invariant).1

pub take_out_beside-returns : goal.take_out_beside-returns
take_out_beside-returns t c =
    let none = heads-none _ _ (sym c.order_at.ensures ∙ c.in_default.is) in
    let left = ap (drop c.loop-order.i) (sym c.deref.ensures.value) ∙ none.0 in
    subst (IsCombined WithoutOver c.args.own.now.items c.args.others.now) (sym c.take_out_bare.ensures.items)
    (taking-all c.args.own.now.items c.args.others.now c.loop-order.own.items c.loop-order.i c.loop-order.j c.loop-order.any_bare left none.1
    c.loop-order.invariant).0

-- ---- by a search for each

pub take_out_found-take_out_of_child-any_bare-requires : goal.take_out_found-take_out_of_child-any_bare-requires
take_out_found-take_out_of_child-any_bare-requires t c = (
  search (rules, the_lemmas),
  (
    ap (λ (d : Elem × Trie). is_trie d.1) (sym c.index-others-place.is)
        ∙ child-trie c.args.others.now c.in-Ok.place c.index-others-place.result c.in-Ok.ensures.within c.index-others-place.is c.requires.others_tries,
    found-next c.args.own.now.items c.args.others.now c.loop-i.own.items c.loop-i.i c.loop-i.any_bare c.index_mut.result.now (omega arith)
        c.index_mut.ensures.value c.loop-i.invariant,
  ),
)

pub take_out_found-loop-i-preserved : goal.take_out_found-loop-i-preserved
take_out_found-loop-i-preserved t c =
    let Next : List (Elem × Trie) → Bool → Type 0 = λ l b. IsTakingFound c.args.own.now.items c.args.others.now l (c.loop-i.i + 1) b in
    let now = c.loop-i.own.items in
    let mine = c.index.result.now in
    elim c.match-search.branch [
      | take_out_found-in-Ok w ↦
          let child = w.take_out_of_child-any_bare in
          let theirs = get_or c.args.others.now w.in-Ok.place w.index-others-place.result in
          let at = child-found (element_view mine.0) c.args.others.now w.in-Ok.place w.index-others-place.result c.requires.others_rise
          w.in-Ok.ensures.within (w.in-Ok.ensures.same w.index-others-place.result) in
          let same = same-at now c.loop-i.i mine w.index_mut.result.now (omega arith) c.index.ensures w.index_mut.ensures.value in
          subst (λ l. Next l c.match-search.any_bare) (sym (ap (λ v. v.items) w.own-is))
          (subst (Next (set now c.loop-i.i child.new.child)) (sym w.any_bare-is)
          (found-both c.args.own.now.items c.args.others.now now c.loop-i.i c.loop-i.any_bare child.result w.index_mut.result.now child.new.child theirs.1
          c.requires.others_rise (omega arith) w.index_mut.ensures.value
          (ap (λ (x : Elem × Trie). child_at (element_view x.0) c.args.others.now) (sym same) ∙ at)
          child.ensures.element child.ensures.made child.ensures.bare c.loop-i.invariant))
      | take_out_found-in_default w ↦
          let none = child-absent (element_view mine.0) c.args.others.now w.in_default.field-0 w.in_default.ensures.between in
          subst (λ l. Next l c.match-search.any_bare) (sym (ap (λ v. v.items) w.own-is))
          (subst (Next now) (sym w.any_bare-is)
          (found-own c.args.own.now.items c.args.others.now now c.loop-i.i c.loop-i.any_bare mine c.requires.others_rise (omega arith)
          c.index.ensures none c.loop-i.invariant))
    ]

pub take_out_found-take_out_bare-requires : goal.take_out_found-take_out_bare-requires
take_out_found-take_out_bare-requires t c =
    (found-all c.args.own.now.items c.args.others.now c.loop-i.own.items c.loop-i.i c.loop-i.any_bare (drop_all c.loop-i.i c.loop-i.own.items (omega arith))
    c.loop-i.invariant).1

pub take_out_found-returns : goal.take_out_found-returns
take_out_found-returns t c =
    subst (IsCombined WithoutOver c.args.own.now.items c.args.others.now) (sym c.take_out_bare.ensures.items)
    (found-all c.args.own.now.items c.args.others.now c.loop-i.own.items c.loop-i.i c.loop-i.any_bare (drop_all c.loop-i.i c.loop-i.own.items (omega arith))
    c.loop-i.invariant).0

-- ---- the place

pub take_out_over-take_out_found-requires : goal.take_out_over-take_out_found-requires
take_out_over-take_out_found-requires t c =
    let own = trie-parts c.args.own.now _ refl c.requires.own in
    let others = trie-parts c.args.other.now c.deref.result.now c.deref.ensures.value c.requires.other in
    (search (rules, the_lemmas), (others.0, (others.1, (own.0, own.1))))

pub take_out_over-take_out_beside-requires : goal.take_out_over-take_out_beside-requires
take_out_over-take_out_beside-requires t c =
    let own = trie-parts c.args.own.now _ refl c.requires.own in
    let others = trie-parts c.args.other.now c.deref-else-searches.result.now c.deref-else-searches.ensures.value c.requires.other in
    (search (rules, the_lemmas), (others.0, (others.1, (own.0, own.1))))

pub take_out_over-returns-then-searches : goal.take_out_over-returns-then-searches
take_out_over-returns-then-searches t c =
    let here : c.if-here.here ≡ ((out-Trie c.args.own.now).here && not (is_concerned WithoutOver (paths c.args.other.now) [])) =
    elim c.if-here.branch [
      | take_out_over-then-here w ↦ w.here-is ∙ ap not (w.has_paths.ensures ∙ sym (any-root (paths c.args.other.now)))
          ∙ sym (ap (λ b. b && not (is_concerned WithoutOver (paths c.args.other.now) [])) w.if-here.true)
      | take_out_over-else-here w ↦ w.here-is ∙ w.if-here.false
          ∙ sym (ap (λ b. b && not (is_concerned WithoutOver (paths c.args.other.now) [])) w.if-here.false)
    ] in
    combined-place WithoutOver _ c.args.own.now c.args.other.now here
    (subst (λ l. IsCombined WithoutOver (out-Trie c.args.own.now).below.items l c.take_out_found.new.own.items) c.deref.ensures.value c.take_out_found.ensures)

pub take_out_over-returns-else-searches : goal.take_out_over-returns-else-searches
take_out_over-returns-else-searches t c =
    let here : c.if-here.here ≡ ((out-Trie c.args.own.now).here && not (is_concerned WithoutOver (paths c.args.other.now) [])) =
    elim c.if-here.branch [
      | take_out_over-then-here w ↦ w.here-is ∙ ap not (w.has_paths.ensures ∙ sym (any-root (paths c.args.other.now)))
          ∙ sym (ap (λ b. b && not (is_concerned WithoutOver (paths c.args.other.now) [])) w.if-here.true)
      | take_out_over-else-here w ↦ w.here-is ∙ w.if-here.false
          ∙ sym (ap (λ b. b && not (is_concerned WithoutOver (paths c.args.other.now) [])) w.if-here.false)
    ] in
    combined-place WithoutOver _ c.args.own.now c.args.other.now here
    (subst (λ l. IsCombined WithoutOver (out-Trie c.args.own.now).below.items l c.take_out_beside.new.own.items) c.deref-else-searches.ensures.value
    c.take_out_beside.ensures)
