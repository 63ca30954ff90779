use Rattle.std.proofs.Common.{◌≡◌, ◌+◌, ap, sym, subst, ◌∙◌, drop, Some, Less, Equal, Greater, rules}
use Rattle.std.proofs.lemmas.List.{drop_all}
use Rattle.std.specs.Option.{option_copied}
use Rattle.ssa_path.specs.Children.{heads_order}
use Rattle.ssa_path.specs.Combine.{keeps, IsCombined}
use Rattle.ssa_path.specs.View.{element_view}
use Rattle.ssa_path.specs.declared.trie.Trie.{the_lemmas}
use Rattle.ssa_path.specs.declared.trie.Trie.TheViews.{out-Trie}
use Rattle.ssa_path.proofs.Levels.{child-tests, trie-parts}
use Rattle.ssa_path.proofs.Lists.{child-trie}
use Rattle.ssa_path.proofs.Combining.{Children, combining-all, combined-place, heads-none, own-at, other-at, both-at}
use Rattle.ssa_path.proofs.Finding.{IsFinding, finding-all, none-at, some-at}
use Rattle.ssa_path.proofs.combine.+combine.Goals as goal
use Rattle.ssa_path.proofs.combine.+combine.Goals.{combine_found-in-None+in_ok-push_kept-in-None, combine_found-in-Some+in_ok-child-in-Some+in_ok-push_filled-in-Some}

pub combine-combine_below-requires : goal.combine-combine_below-requires
combine-combine_below-requires t c =
    let own = trie-parts c.args.own.now c.deref.result.now c.deref.ensures.value c.requires.own in
    let others = trie-parts c.args.other.now c.deref-2.result.now c.deref-2.ensures.value c.requires.other in
    (search (rules, the_lemmas), (own.0, (own.1, (others.0, others.1))))

pub combine-returns : goal.combine-returns
combine-returns t c =
    let below : IsCombined c.args.how (out-Trie c.args.own.now).below.items (out-Trie c.args.other.now).below.items c.in_ok-below.below.items =
    rw (c.deref.ensures.value, c.deref-2.ensures.value) at c.in_ok-below.ensures in
    let here = c.keeps.ensures ∙ ap (keeps c.args.how (out-Trie c.args.own.now).here) c.is_concerned-concerned.ensures in
    combined-place c.args.how _ c.args.own.now c.args.other.now here below

pub combine_children-loop-order-preserved-in-Less : goal.combine_children-loop-order-preserved-in-Less
combine_children-loop-order-preserved-in-Less t c =
    let heads : heads_order (drop c.loop-order.i c.args.own.now) (drop c.loop-order.j c.args.others.now) ≡ Some Less = sym c.order_at.ensures ∙ c.in-Some.is
    ∙ ap Some c.in-Less.is in
    own-at c.args.how c.args.own.now c.args.others.now c.loop-order.i c.loop-order.j c.index-own-i.result c.loop-order.combined.items
    c.push_kept.new.children.items c.keeps.result heads c.index-own-i.is c.keeps.ensures c.in_ok-push_kept-in-Less.ensures c.loop-order.invariant

pub combine_children-loop-order-preserved-in-Greater : goal.combine_children-loop-order-preserved-in-Greater
combine_children-loop-order-preserved-in-Greater t c =
    let heads : heads_order (drop c.loop-order.i c.args.own.now) (drop c.loop-order.j c.args.others.now) ≡ Some Greater = sym c.order_at.ensures
    ∙ c.in-Some.is ∙ ap Some c.in-Greater.is in
    other-at c.args.how c.args.own.now c.args.others.now c.loop-order.i c.loop-order.j c.index-others-j.result c.loop-order.combined.items
    c.push_kept-in-Greater.new.children.items c.keeps-in-Greater.result heads c.index-others-j.is c.keeps-in-Greater.ensures
    c.in_ok-push_kept-in-Greater.ensures c.loop-order.invariant

pub combine_children-loop-order-preserved : goal.combine_children-loop-order-preserved
combine_children-loop-order-preserved t c =
    let heads : heads_order (drop c.loop-order.i c.args.own.now) (drop c.loop-order.j c.args.others.now) ≡ Some Equal = sym c.order_at.ensures ∙ c.in-Some.is
    ∙ ap Some c.in-Equal.is in
    both-at c.args.how c.args.own.now c.args.others.now c.loop-order.i c.loop-order.j c.index-own-i-in-Equal.result c.index-others-j-in-Equal.result
    c.loop-order.combined.items c.push_filled.new.children.items c.in_ok-child-in-Equal.child heads c.index-own-i-in-Equal.is c.index-others-j-in-Equal.is
    c.in_ok-child-in-Equal.ensures c.in_ok-push_filled-in-Equal.ensures.ok c.loop-order.invariant

pub combine_children-returns : goal.combine_children-returns
combine_children-returns t c =
    let none = heads-none _ _ (sym c.order_at.ensures ∙ c.in_default.is) in
    combining-all c.args.how c.args.own.now c.args.others.now _ _ _ none.0 none.1 c.loop-order.invariant

pub combine_found-combine-requires : goal.combine_found-combine-requires
combine_found-combine-requires t c =
    let theirs = sym c.find_child.ensures ∙ ap option_copied c.in-Some.is in (
      search (rules, the_lemmas),
      (
        child-trie c.args.own.now c.loop-mine.mine-index c.mine-item.result c.loop-mine-test.true c.mine-item.is c.requires.own_tries,
        child-tests (element_view c.mine-item.result.0) c.args.others.now c.in-Some.theirs.now c.requires.others_tries theirs,
      ),
    )

pub combine_found-loop-mine-preserved : goal.combine_found-loop-mine-preserved
combine_found-loop-mine-preserved t c =
    let Next : Children → Type 0 = IsFinding c.args.how c.args.own.now c.args.others.now (drop (c.loop-mine.mine-index + 1) c.args.own.now) in
    elim c.match-find_child.branch [
      | combine_found-in-None+in_ok-push_kept-in-None w ↦
          subst Next (sym (ap (λ v. v.items) w.combined-is))
          (none-at c.args.how c.args.own.now c.args.others.now c.loop-mine.mine-index c.mine-item.result c.loop-mine.combined.items
          w.push_kept.new.children.items w.keeps.result c.requires.own_alone c.requires.others_rise c.loop-mine-test.true c.mine-item.is
          (sym c.find_child.ensures ∙ ap option_copied w.in-None.is) w.keeps.ensures w.in_ok-push_kept-in-None.ensures c.loop-mine.invariant)
      | combine_found-in-Some+in_ok-child-in-Some+in_ok-push_filled-in-Some w ↦
          subst Next (sym (ap (λ v. v.items) w.combined-is))
          (some-at c.args.how c.args.own.now c.args.others.now c.loop-mine.mine-index c.mine-item.result c.loop-mine.combined.items
          w.push_filled.new.children.items w.in-Some.theirs.now w.in_ok-child-in-Some.child c.requires.own_alone c.requires.others_rise c.loop-mine-test.true
          c.mine-item.is (sym c.find_child.ensures ∙ ap option_copied w.in-Some.is) w.in_ok-child-in-Some.ensures w.in_ok-push_filled-in-Some.ensures.ok
          c.loop-mine.invariant)
    ]

pub combine_found-returns : goal.combine_found-returns
combine_found-returns t c =
    finding-all c.args.how c.args.own.now c.args.others.now _ _ c.requires.own_alone (drop_all c.loop-mine.mine-index c.args.own.now c.loop-mine-test.false)
    c.loop-mine.invariant
