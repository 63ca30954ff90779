use Rattle.std.proofs.Common.{ap, rules, tests, ◌∙◌}
use Rattle.std.proofs.lemmas.List.{take_all}
use Rattle.std.proofs.lemmas.List.Sorted.{IsNonDecreasingBy-from_sort_by_key}
use Rattle.ssa_path.specs.View.{element_view}
use Rattle.ssa_typed.specs.MergedOrder.{numbers}
use Rattle.ssa_typed.proofs.LivePlaces.{are-numbered}
use Rattle.ssa_typed.proofs.live_places.numbered_places.Goals as goal

pub returns : goal.returns
returns c =
    let all = numbers (element_view c.args.first.now) c.args.skip in
    let sorted = c.sort_by_key.new.self.items in
    are-numbered (all c.args.live.now) c.loop-i.numbered.items sorted
    (c.loop-i.invariant ∙ ap all (take_all c.loop-i.i c.args.live.now c.loop-i-test.false)) c.in_ok-sort_by_key.ensures.permutation
    (IsNonDecreasingBy-from_sort_by_key (λ p. p.0) sorted c.in_ok-sort_by_key.ensures.sorted (λ a r f called. search (rules, tests)))
