use Rattle.std.proofs.Common.{ap, refl, rules, tests, ◌∙◌}
use Rattle.std.proofs.lemmas.List.{take_all}
use Rattle.std.proofs.lemmas.List.Sorted.{ranks_by}
use Rattle.std.proofs.lemmas.Fn.{always_returns_same}
use Rattle.ssa_path.proofs.Orders.{element_cmp_total}
use Rattle.ssa_typed.specs.MergedOrder.{lent_place, places}
use Rattle.ssa_typed.specs.Rows.{are_apart}
use Rattle.ssa_typed.proofs.Sorting.{sorted-entries, before, entry_element}
use Rattle.ssa_typed.proofs.SortedOut.{elements-places, places-more}
use Rattle.ssa_typed.proofs.merged_order.places_in_order.Goals as goal

pub loop-i-preserved : goal.loop-i-preserved
loop-i-preserved c =
    places-more c.args.children.now c.loop-i.i c.index-children-i.result _ c.loop-i.sorted.items c.push.new.self.items c.loop-i-test.true
    c.index-children-i.is refl c.loop-i.invariant c.in_ok-push.ensures.items

pub returns : goal.returns
returns c =
    let weak = ranks_by element_cmp_total (entry_element lent_place) in
    let compares = always_returns_same _ _ _ (λ a r f k. search (rules, tests)) in
    sorted-entries lent_place (places c.args.children.now) c.loop-i.sorted.items c.sort_by.new.self.items
    (c.loop-i.invariant ∙ ap places (take_all c.loop-i.i c.args.children.now c.loop-i-test.false))
    (ap are_apart (elements-places c.args.children.now) ∙ c.requires)
    (c.in_ok-sort_by.ensures.stable (before (entry_element lent_place)) weak compares)
    (c.in_ok-sort_by.ensures.sorted (before (entry_element lent_place)) weak compares)
