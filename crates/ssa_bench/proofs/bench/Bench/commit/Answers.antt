use Rattle.std.proofs.Common.{ap, sym, subst, ◌∙◌}
use Rattle.ssa_model.specs.definitions.History as model
use Rattle.ssa_model.specs.definitions.History.{held}
use Rattle.ssa_model.specs.definitions.Valid.{IsValidHistory}
use Rattle.ssa_turn.specs.Histories.{label_view}
use Rattle.ssa_model.proofs.ValidHistories.{next_keeps_history}
use Rattle.ssa_bench.specs.Benches.{IsPreparedOn, led_to}
use Rattle.ssa_bench.specs.BenchView.{bench_view}
use Rattle.ssa_bench.proofs.bench.Bench.commit.Goals as goal

pub append-requires-clause-fits : goal.append-requires-clause-fits
append-requires-clause-fits c =
    let prepared : IsPreparedOn (bench_view c.self.inside) c.args.prepared = subst (λ n. IsPreparedOn n c.args.prepared) (sym c.self.view_is) c.requires in
    prepared.2.fits

pub append-requires-clause-room : goal.append-requires-clause-room
append-requires-clause-room c =
    let prepared : IsPreparedOn (bench_view c.self.inside) c.args.prepared = subst (λ n. IsPreparedOn n c.args.prepared) (sym c.self.view_is) c.requires in
    prepared.2.room

pub append-requires-clause-back : goal.append-requires-clause-back
append-requires-clause-back c =
    let prepared : IsPreparedOn (bench_view c.self.inside) c.args.prepared = subst (λ n. IsPreparedOn n c.args.prepared) (sym c.self.view_is) c.requires in
    prepared.2.back

pub invariant_of-self-2 : goal.invariant_of-self-2
invariant_of-self-2 c =
    let b = c.self.inside in
    let bench : model.Bench = bench_view b in
    let label = label_view c.args.prepared.step.value.1 in
    let state = led_to bench c.args.prepared in
    let prepared : IsPreparedOn bench c.args.prepared = subst (λ n. IsPreparedOn n c.args.prepared) (sym c.self.view_is) c.requires in
    subst (IsValidHistory b.schema.kind b.depth) (sym (c.hold.ensures ∙ ap (held b.depth) c.in_ok-append.ensures.ok))
    (next_keeps_history b.schema.kind b.depth b.timeline label state c.self.invariant c.place_is_within.ensures prepared.2.valid prepared.2.step)
