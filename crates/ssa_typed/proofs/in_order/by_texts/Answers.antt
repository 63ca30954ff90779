use Rattle.std.proofs.Common.{rules, tests, ◌∙◌}
use Rattle.std.proofs.lemmas.List.{take_all}
use Rattle.std.proofs.lemmas.List.Sorted.{ranks_by}
use Rattle.std.proofs.lemmas.Fn.{always_returns_same}
use Rattle.ssa_path.proofs.Orders.{element_cmp_total}
use Rattle.ssa_typed.proofs.References.{Reference}
use Rattle.ssa_typed.proofs.Sorting.{sorted-entries, before, element_of}
use Rattle.ssa_typed.proofs.in_order.by_texts.Goals as goal

pub returns : goal.returns
returns c =
    let weak = ranks_by element_cmp_total element_of in
    let compares = always_returns_same _ _ _ (λ a r f k. search (rules, tests)) in
    sorted-entries (λ (r : Reference). r.now) c.args.children.now c.loop-child.sorted.items c.sort_by.new.self.items
    (c.loop-child.invariant ∙ take_all c.loop-child.child-index c.args.children.now c.loop-child-test.false) c.requires
    (c.in_ok-sort_by.ensures.stable (before element_of) weak compares) (c.in_ok-sort_by.ensures.sorted (before element_of) weak compares)
