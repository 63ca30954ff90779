use Rattle.std.proofs.Common.{◌≡◌, ◌<◌, Some, sym, ap, subst, ◌∙◌}
use Rattle.ssa_model.specs.definitions.Carry.{carry}
use Rattle.ssa_model.specs.definitions.Operations.{State}
use Rattle.ssa_model.specs.definitions.Record.{record_of}
use Rattle.ssa_model.specs.definitions.History as model
use Rattle.ssa_model.specs.definitions.History.{appended, past_len, present, with_timeline}
use Rattle.ssa_model.specs.definitions.Valid.{IsNextStep, IsValidHistory, IsValidState, KeepsOrder}
use Rattle.ssa_model.specs.definitions.BenchOfStates.{step_in}
use Rattle.ssa_model.proofs.ValidTimelines.{present_valid}
use Rattle.ssa_json.specs.Readings.{readings}
use Rattle.ssa_json.specs.View.{view}
use Rattle.ssa_turn.specs.Histories.{label_view}
use Rattle.ssa_turn.specs.TablesBack.{HasTableBack}
use Rattle.ssa_turn.specs.declared.label.Label.{Label}
use Rattle.ssa_turn_state.specs.States.{HasStateRoom, IsTaken, state_steps}
use Rattle.ssa_turn_state.specs.declared.live_state.StateDelta.{StateDelta}
use Rattle.ssa_bench.specs.BenchView.{bench_view}
use Rattle.ssa_bench.specs.Taking.{taken_view}
use Rattle.ssa_bench.proofs.Planned.{IsLed, led-by}
use Rattle.ssa_bench.proofs.TakenStates.{taken-follows}
use Rattle.ssa_bench.proofs.TakenLines.{appended-history}
use Rattle.ssa_bench.proofs.bench.Bench.take_line.Goals as goal

pub leading-requires-clause-valid : goal.leading-requires-clause-valid
leading-requires-clause-valid c =
    let b = c.self.inside in
    let kind = b.schema.kind in
    let s : model.Step = taken_view c.in_ok-taken.taken in
    let valid : IsValidState kind s.state = subst (λ (n : model.Bench). IsValidState n.schema.kind s.state) (sym c.self.view_is) c.in_ok-taken.ensures.valid in
    (kind, subst (IsValidState kind) (sym c.present.ensures) (present_valid kind b.timeline c.self.invariant.states), valid)

pub leading-requires-clause-order : goal.leading-requires-clause-order
leading-requires-clause-order c =
    let bench : model.Bench = bench_view c.self.inside in
    let s : model.Step = taken_view c.in_ok-taken.taken in
    let v = view c.args.line.value in
    let taken : step_in readings bench (present bench.timeline) v ≡ Some s = subst (λ (n : model.Bench). step_in readings n (present n.timeline) v ≡ Some s)
    (sym c.self.view_is) c.in_ok-taken.ensures.taken in
    let keeps : State → Type 0 = λ n. KeepsOrder n.table s.state.table in
    subst keeps (sym c.present.ensures) (taken-follows bench (present bench.timeline) v s taken).order

pub append-requires-clause-fits : goal.append-requires-clause-fits
append-requires-clause-fits c =
    let b = c.self.inside in
    let kind = b.schema.kind in
    let bench : model.Bench = bench_view b in
    let s : model.Step = taken_view c.in_ok-taken.taken in
    let v = view c.args.line.value in
    let before = present b.timeline in
    let taken : step_in readings bench before v ≡ Some s = subst (λ (n : model.Bench). step_in readings n (present n.timeline) v ≡ Some s) (sym c.self.view_is)
    c.in_ok-taken.ensures.taken in
    let valid : IsValidState kind s.state = subst (λ (n : model.Bench). IsValidState n.schema.kind s.state) (sym c.self.view_is) c.in_ok-taken.ensures.valid in
    let follows = taken-follows bench before v s taken in
    let is = c.in_ok-delta.ensures.record ∙ ap (λ n. record_of n s.state) c.present.ensures in
    let leads : IsLed (state_steps c.in_ok-delta.delta) before s.state =
    led-by kind (state_steps c.in_ok-delta.delta) before s.state is (present_valid kind b.timeline c.self.invariant.states) valid follows.order in
    subst (λ (e : StateDelta × Label). IsTaken (state_steps e.0) before (carry (state_steps e.0) before)) (sym c.in_ok-boxed.ensures) leads.fits

pub append-requires-clause-room : goal.append-requires-clause-room
append-requires-clause-room c =
    let before = present c.self.inside.timeline in
    subst (λ (e : StateDelta × Label). HasStateRoom e.0 before) (sym c.in_ok-boxed.ensures)
    (subst (λ (n : State). HasStateRoom c.in_ok-delta.delta n) c.present.ensures c.in_ok-delta.ensures.room)

pub append-requires-clause-back : goal.append-requires-clause-back
append-requires-clause-back c =
    let b = c.self.inside in
    let kind = b.schema.kind in
    let bench : model.Bench = bench_view b in
    let s : model.Step = taken_view c.in_ok-taken.taken in
    let v = view c.args.line.value in
    let before = present b.timeline in
    let taken : step_in readings bench before v ≡ Some s = subst (λ (n : model.Bench). step_in readings n (present n.timeline) v ≡ Some s) (sym c.self.view_is)
    c.in_ok-taken.ensures.taken in
    let valid : IsValidState kind s.state = subst (λ (n : model.Bench). IsValidState n.schema.kind s.state) (sym c.self.view_is) c.in_ok-taken.ensures.valid in
    let follows = taken-follows bench before v s taken in
    let is = c.in_ok-delta.ensures.record ∙ ap (λ n. record_of n s.state) c.present.ensures in
    let leads : IsLed (state_steps c.in_ok-delta.delta) before s.state =
    led-by kind (state_steps c.in_ok-delta.delta) before s.state is (present_valid kind b.timeline c.self.invariant.states) valid follows.order in
    subst (λ (e : StateDelta × Label). HasTableBack (carry (state_steps e.0) before)) (sym c.in_ok-boxed.ensures)
    (subst HasTableBack (sym leads.led) c.own_entries_are_read.ensures.sets)

pub invariant_of-self-2 : goal.invariant_of-self-2
invariant_of-self-2 c =
    let b = c.self.inside in
    let kind = b.schema.kind in
    let bench : model.Bench = bench_view b in
    let s : model.Step = taken_view c.in_ok-taken.taken in
    let v = view c.args.line.value in
    let before = present b.timeline in
    let taken : step_in readings bench before v ≡ Some s = subst (λ (n : model.Bench). step_in readings n (present n.timeline) v ≡ Some s) (sym c.self.view_is)
    c.in_ok-taken.ensures.taken in
    let valid : IsValidState kind s.state = subst (λ (n : model.Bench). IsValidState n.schema.kind s.state) (sym c.self.view_is) c.in_ok-taken.ensures.valid in
    let follows = taken-follows bench before v s taken in
    let is = c.in_ok-delta.ensures.record ∙ ap (λ n. record_of n s.state) c.present.ensures in
    let leads : IsLed (state_steps c.in_ok-delta.delta) before s.state =
    led-by kind (state_steps c.in_ok-delta.delta) before s.state is (present_valid kind b.timeline c.self.invariant.states) valid follows.order in
    let few : past_len bench.timeline < bench.depth = subst (λ (n : model.Bench). past_len n.timeline < n.depth) (sym c.self.view_is) c.requires.few in
    let next : IsNextStep b.timeline s.label s.state = record { order = follows.order; named = follows.named } in
    let unboxed = ap (λ (e : StateDelta × Label). appended b.timeline (label_view e.1) (carry (state_steps e.0) before)) c.in_ok-boxed.ensures in
    let goes_on = c.in_ok-append.ensures.ok ∙ unboxed ∙ ap (appended b.timeline s.label) leads.led in
    subst (IsValidHistory kind b.depth) (sym goes_on)
    (appended-history kind b.depth b.timeline s.label s.state c.self.invariant c.place_is_within.ensures few valid next)

pub returns-clause-goes : goal.returns-clause-goes
returns-clause-goes c =
    let b = c.self.inside in
    let kind = b.schema.kind in
    let bench : model.Bench = bench_view b in
    let s : model.Step = taken_view c.in_ok-taken.taken in
    let v = view c.args.line.value in
    let before = present b.timeline in
    let taken : step_in readings bench before v ≡ Some s = subst (λ (n : model.Bench). step_in readings n (present n.timeline) v ≡ Some s) (sym c.self.view_is)
    c.in_ok-taken.ensures.taken in
    let valid : IsValidState kind s.state = subst (λ (n : model.Bench). IsValidState n.schema.kind s.state) (sym c.self.view_is) c.in_ok-taken.ensures.valid in
    let follows = taken-follows bench before v s taken in
    let is = c.in_ok-delta.ensures.record ∙ ap (λ n. record_of n s.state) c.present.ensures in
    let leads : IsLed (state_steps c.in_ok-delta.delta) before s.state =
    led-by kind (state_steps c.in_ok-delta.delta) before s.state is (present_valid kind b.timeline c.self.invariant.states) valid follows.order in
    let unboxed = ap (λ (e : StateDelta × Label). appended b.timeline (label_view e.1) (carry (state_steps e.0) before)) c.in_ok-boxed.ensures in
    let goes_on = c.in_ok-append.ensures.ok ∙ unboxed ∙ ap (appended b.timeline s.label) leads.led in (
      s,
      c.in_ok-taken.ensures.taken,
      (λ i. record { schema = b.schema; identity = b.identity; depth = b.depth; timeline = goes_on i })
          ∙ ap (λ n. with_timeline n (appended n.timeline s.label s.state)) c.self.view_is,
    )
