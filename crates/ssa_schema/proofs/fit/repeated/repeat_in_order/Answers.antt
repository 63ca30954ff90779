use Rattle.std.proofs.Common.{rules, tests, ap, ◌∙◌, map}
use Rattle.std.proofs.lemmas.List.{take_all}
use Rattle.std.proofs.lemmas.List.Sorted.{ranks_by}
use Rattle.std.proofs.lemmas.Fn.{always_returns_same}
use Rattle.ssa_schema.specs.Repeats.{same_tagged, tagged_view, least_repeat, placed_view}
use Rattle.ssa_schema.proofs.Repeats.{numbered}
use Rattle.ssa_schema.proofs.Rows.{tagged_cmp_total, tagged_of, before, placed-more, first-place}
use Rattle.ssa_schema.proofs.fit.repeated.repeat_in_order.Goals as goal

pub loop-place-preserved : goal.loop-place-preserved
loop-place-preserved c =
    let l = c.loop-place in
    placed-more c.args.keys.now l.place c.index-keys-place.result c.new.result l.placed.items
    c.push.new.self.items c.loop-place-test.true c.index-keys-place.is c.new.ensures.place c.new.ensures.key l.invariant c.in_ok-push.ensures.items

pub returns : goal.returns
returns c =
    let l = c.loop-place in
    let weak = ranks_by tagged_cmp_total tagged_view in
    let compares = always_returns_same _ _ _ (λ a r f k. search (rules, tests)) in
    c.least_repeat.ensures ∙ ap (λ ps. least_repeat same_tagged (placed_view ps)) c.deref.ensures.value
    ∙ first-place c.args.keys.now l.placed.items c.sort_by.new.self.items
    (l.invariant ∙ ap (λ ks. numbered 0 (map tagged_of ks)) (take_all l.place c.args.keys.now c.loop-place-test.false))
    (c.in_ok-sort_by.ensures.stable before weak compares) (c.in_ok-sort_by.ensures.sorted before weak compares)
