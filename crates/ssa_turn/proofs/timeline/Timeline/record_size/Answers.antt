use Rattle.std.proofs.Common.{◌-◌, ◌^◌, min, option_map, Some, sym, ap, ◌∙◌, true≢false}
use Rattle.ssa_model.specs.definitions.HistoryRecords.{kept_from, kept_size}
use Rattle.ssa_turn.specs.Histories.{timeline_view}
use Rattle.ssa_turn.proofs.KeptRecords.{record-between, size-none, size-some}
use Rattle.ssa_turn.proofs.timeline.Timeline.record_size.Goals as goal

pub size-requires : goal.size-requires
size-requires c =
    let e = c.in-Some.entry in
    let led = record-between c.self.inside c.self.invariant c.args.n (e.0.now, e.1.now) c.in-Some.ensures.value in
    (kept_from (timeline_view c.self.inside) c.args.n, led.fits.1)

pub returns-in-Some : goal.returns-in-Some
returns-in-Some c =
    let e = c.in-Some.entry in
    ap Some c.size.ensures
    ∙ ap (option_map (λ s. min s (2 ^ 64 - 1))) (sym (size-some c.self.inside c.self.invariant c.args.n (e.0.now, e.1.now) c.in-Some.ensures.value))
    ∙ ap (λ t. option_map (λ s. min s (2 ^ 64 - 1)) (kept_size t c.args.n)) c.self.view_is

pub returns-in-None : goal.returns-in-None
returns-in-None c =
    ap (option_map (λ s. min s (2 ^ 64 - 1))) (sym (size-none c.self.inside c.args.n (λ lt. true≢false (sym (c.in-None.ensures.within.1 lt)))))
    ∙ ap (λ t. option_map (λ s. min s (2 ^ 64 - 1)) (kept_size t c.args.n)) c.self.view_is
