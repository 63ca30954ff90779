use Rattle.std.proofs.Common.{map, rules, tests, sym, ap, subst, ◌∙◌}
use Rattle.std.proofs.lemmas.List.Sorted.{ranks_by}
use Rattle.std.proofs.lemmas.Fn.{always_returns_same}
use Rattle.ssa_path.specs.View.{element_view}
use Rattle.ssa_typed.specs.InOrder.{IsInOrder}
use Rattle.ssa_typed.specs.Keyed.{child_of}
use Rattle.ssa_typed.specs.declared.keyed.KeyedChild.{KeyedChild}
use Rattle.ssa_typed.proofs.NumberedChildren.{sorted-keyed, keyed_before, keyed_cmp_total}
use Rattle.ssa_typed.proofs.keyed.by_keys.Goals as goal

pub returns : goal.returns
returns c =
    let weak = ranks_by keyed_cmp_total (λ (k : KeyedChild). k) in
    let compares = always_returns_same _ _ _ (λ a r f k. search (rules, tests)) in
    let stable = c.in_ok-sort_by.ensures.stable keyed_before weak compares in
    let sorted = c.in_ok-sort_by.ensures.sorted keyed_before weak compares in
    let there = c.in_ok-sorted.ensures ∙ ap (map child_of) c.deref.ensures.value in
    subst (IsInOrder c.args.children.now) (sym there)
    (sorted-keyed (element_view c.first-item.result.0) c.in-Some.start.now c.args.children.now c.in_ok-keyed.keyed.items c.sort_by.new.self.items
    c.in_ok-keyed.ensures c.in-Some.ensures c.requires c.in_ok-sort_by.ensures.permutation stable sorted)
