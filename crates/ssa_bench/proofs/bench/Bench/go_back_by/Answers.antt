use Rattle.std.proofs.Common.{◌≡◌, ◌<◌, Ok, ap, length, sym, subst, ◌∙◌}
use Rattle.ssa_model.specs.definitions.Carry.{carry}
use Rattle.ssa_model.specs.definitions.History as model
use Rattle.ssa_model.specs.definitions.History.{last_state, past_len, present, with_timeline, preceded}
use Rattle.ssa_model.specs.definitions.Operations.{State}
use Rattle.ssa_model.specs.definitions.Valid.{IsValidHistory, KeepsOrder}
use Rattle.ssa_model.proofs.RecordTakes.{fixes_target}
use Rattle.std.proofs.Common.{take}
use Rattle.ssa_json.specs.View.{view}
use Rattle.ssa_turn.specs.Histories.{label_view}
use Rattle.ssa_turn.specs.TablesBack.{HasTableBack}
use Rattle.ssa_turn.specs.declared.label.Label.{Label}
use Rattle.ssa_turn_state.specs.States.{HasStateRoom, IsTaken, state_steps}
use Rattle.ssa_turn_state.specs.declared.live_state.StateDelta.{StateDelta}
use Rattle.ssa_file.specs.Recording.{format_view}
use Rattle.ssa_bench.specs.BenchView.{bench_view}
use Rattle.ssa_bench.specs.Taking.{IsToldMove, TellsMove}
use Rattle.ssa_bench.proofs.TakenLines.{preceded-history}
use Rattle.ssa_bench.proofs.bench.Bench.go_back_by.Goals as goal
use Rattle.ssa_model.proofs.RecordTakes.{taken-there}

pub precede-requires-clause-fits : goal.precede-requires-clause-fits
precede-requires-clause-fits c =
    let bench : model.Bench = bench_view c.self.inside in
    let v = view c.args.line.now.value in
    let told = subst (λ (b : model.Bench). TellsMove (format_view c.args.format) b (Ok c.in_ok-step.step) v) (sym (c.self.view_is ∙ c.in_ok-step.ensures.same))
    c.in_ok-step.ensures.told in
    subst (λ (e : StateDelta × Label). IsTaken (state_steps e.0) (present bench.timeline) (carry (state_steps e.0) (present bench.timeline)))
    (sym c.in_ok-boxed.ensures)
    (taken-there bench.schema.kind (state_steps c.in_ok-step.step.delta) (present bench.timeline) told.0 told.1.takes)

pub precede-requires-clause-room : goal.precede-requires-clause-room
precede-requires-clause-room c =
    let bench : model.Bench = bench_view c.self.inside in
    let v = view c.args.line.now.value in
    subst (λ (e : StateDelta × Label). HasStateRoom e.0 (present bench.timeline)) (sym c.in_ok-boxed.ensures)
    ((subst (λ (b : model.Bench). TellsMove (format_view c.args.format) b (Ok c.in_ok-step.step) v) (sym (c.self.view_is ∙ c.in_ok-step.ensures.same))
    c.in_ok-step.ensures.told).1.room)

pub precede-requires-clause-back : goal.precede-requires-clause-back
precede-requires-clause-back c =
    let bench : model.Bench = bench_view c.self.inside in
    let v = view c.args.line.now.value in
    let told = subst (λ (b : model.Bench). TellsMove (format_view c.args.format) b (Ok c.in_ok-step.step) v) (sym (c.self.view_is ∙ c.in_ok-step.ensures.same))
    c.in_ok-step.ensures.told in
    subst (λ (e : StateDelta × Label). HasTableBack (carry (state_steps e.0) (present bench.timeline))) (sym c.in_ok-boxed.ensures)
    (subst HasTableBack (sym (fixes_target bench.schema.kind (state_steps c.in_ok-step.step.delta) (present bench.timeline) told.0 told.1.takes)) told.1.back)

pub invariant_of-self-2 : goal.invariant_of-self-2
invariant_of-self-2 c =
    let b = c.self.inside in
    let bench : model.Bench = bench_view b in
    let v = view c.args.line.now.value in
    let same = sym (c.self.view_is ∙ c.in_ok-step.ensures.same) in
    let told = subst (λ (n : model.Bench). TellsMove (format_view c.args.format) n (Ok c.in_ok-step.step) v) same c.in_ok-step.ensures.told in
    let first = subst (λ (n : model.Bench). past_len n.timeline ≡ 0) same c.requires.first in
    let few = subst (λ (n : model.Bench). length n.timeline.later < n.depth) same c.requires.few in
    let w = told.0 in
    let label = label_view c.in_ok-step.step.label in
    let unboxed = ap (λ (e : StateDelta × Label). preceded b.timeline (label_view e.1) (carry (state_steps e.0) (present b.timeline))) c.in_ok-boxed.ensures in
    let led = fixes_target bench.schema.kind (state_steps c.in_ok-step.step.delta) (present b.timeline) w told.1.takes in
    let now : present b.timeline ≡ b.timeline.first = ap (λ n. last_state b.timeline.first (take n b.timeline.later)) first in
    let order = subst (λ (s : State). KeepsOrder s.table w.table) now told.1.takes.order in
    subst (IsValidHistory b.schema.kind b.depth) (sym (c.in_ok-precede.ensures.ok ∙ unboxed ∙ ap (preceded b.timeline label) led))
    (preceded-history b.schema.kind b.depth b.timeline label w c.self.invariant few told.1.takes.to order told.1.named)

pub returns-clause-moves : goal.returns-clause-moves
returns-clause-moves c =
    let b = c.self.inside in
    let bench : model.Bench = bench_view b in
    let v = view c.args.line.now.value in
    let same = sym (c.self.view_is ∙ c.in_ok-step.ensures.same) in
    let own = c.in_ok-step.ensures.told in
    let w = own.0 in
    let takes = (subst (λ (n : model.Bench). IsToldMove (format_view c.args.format) n c.in_ok-step.step v w) same own.1).takes in
    let label = label_view c.in_ok-step.step.label in
    let unboxed = ap (λ (e : StateDelta × Label). preceded b.timeline (label_view e.1) (carry (state_steps e.0) (present b.timeline))) c.in_ok-boxed.ensures in
    let led = fixes_target bench.schema.kind (state_steps c.in_ok-step.step.delta) (present b.timeline) w takes in
    let goes = c.in_ok-precede.ensures.ok ∙ unboxed ∙ ap (preceded b.timeline label) led in (
      (label, w),
      own.1.move,
      (λ i. record { schema = b.schema; identity = b.identity; depth = b.depth; timeline = goes i })
          ∙ ap (λ (n : model.Bench). with_timeline n (preceded n.timeline label w)) (sym same),
    )
