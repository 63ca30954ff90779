use Rattle.std.proofs.Common.{◌≤◌, ◌<◌, Ok, ap, length, sym, subst, ◌∙◌}
use Rattle.ssa_model.specs.definitions.Carry.{carry}
use Rattle.ssa_model.specs.definitions.History as model
use Rattle.ssa_model.specs.definitions.History.{appended, past_len, present, with_timeline}
use Rattle.ssa_model.specs.definitions.Valid.{IsNextStep, IsValidHistory}
use Rattle.ssa_model.proofs.RecordTakes.{fixes_target}
use Rattle.ssa_json.specs.View.{view}
use Rattle.ssa_turn.specs.Histories.{label_view}
use Rattle.ssa_turn.specs.TablesBack.{HasTableBack}
use Rattle.ssa_turn.specs.declared.label.Label.{Label}
use Rattle.ssa_turn_state.specs.States.{HasStateRoom, IsTaken, state_steps}
use Rattle.ssa_turn_state.specs.declared.live_state.StateDelta.{StateDelta}
use Rattle.ssa_file.specs.Recording.{format_view}
use Rattle.ssa_bench.specs.BenchView.{bench_view}
use Rattle.ssa_bench.specs.Taking.{IsToldMove, TellsMove}
use Rattle.ssa_bench.proofs.TakenLines.{appended-history}
use Rattle.ssa_bench.proofs.bench.Bench.go_on_by.Goals as goal
use Rattle.ssa_model.proofs.RecordTakes.{taken-there}

pub append-requires-clause-fits : goal.append-requires-clause-fits
append-requires-clause-fits c =
    let bench : model.Bench = bench_view c.self-2.inside in
    let v = view c.args.line.now.value in
    let told = subst (λ (b : model.Bench). TellsMove (format_view c.args.format) b (Ok c.in_ok-step.step) v) (sym (c.self-2.view_is ∙ c.in_ok-step.ensures.same))
    c.in_ok-step.ensures.told in
    subst (λ (e : StateDelta × Label). IsTaken (state_steps e.0) (present bench.timeline) (carry (state_steps e.0) (present bench.timeline)))
    (sym c.in_ok-boxed.ensures)
    (taken-there bench.schema.kind (state_steps c.in_ok-step.step.delta) (present bench.timeline) told.0 told.1.takes)

pub append-requires-clause-room : goal.append-requires-clause-room
append-requires-clause-room c =
    let bench : model.Bench = bench_view c.self-2.inside in
    let v = view c.args.line.now.value in
    subst (λ (e : StateDelta × Label). HasStateRoom e.0 (present bench.timeline)) (sym c.in_ok-boxed.ensures)
    ((subst (λ (b : model.Bench). TellsMove (format_view c.args.format) b (Ok c.in_ok-step.step) v) (sym (c.self-2.view_is ∙ c.in_ok-step.ensures.same)) c.in_ok-step.ensures.told).1.room)

pub append-requires-clause-back : goal.append-requires-clause-back
append-requires-clause-back c =
    let bench : model.Bench = bench_view c.self-2.inside in
    let v = view c.args.line.now.value in
    let told = subst (λ (b : model.Bench). TellsMove (format_view c.args.format) b (Ok c.in_ok-step.step) v) (sym (c.self-2.view_is ∙ c.in_ok-step.ensures.same))
    c.in_ok-step.ensures.told in
    subst (λ (e : StateDelta × Label). HasTableBack (carry (state_steps e.0) (present bench.timeline))) (sym c.in_ok-boxed.ensures)
    (subst HasTableBack (sym (fixes_target bench.schema.kind (state_steps c.in_ok-step.step.delta) (present bench.timeline) told.0 told.1.takes)) told.1.back)

pub invariant_of-self-2 : goal.invariant_of-self-2
invariant_of-self-2 c =
    let b = c.self-2.inside in
    let bench : model.Bench = bench_view b in
    let v = view c.args.line.now.value in
    let same = sym (c.self-2.view_is ∙ c.in_ok-step.ensures.same) in
    let told = subst (λ (n : model.Bench). TellsMove (format_view c.args.format) n (Ok c.in_ok-step.step) v) same c.in_ok-step.ensures.told in
    let few = subst (λ (n : model.Bench). past_len n.timeline < n.depth) same c.requires.few in
    let w = told.0 in
    let label = label_view c.in_ok-step.step.label in
    let unboxed = ap (λ (e : StateDelta × Label). appended b.timeline (label_view e.1) (carry (state_steps e.0) (present b.timeline))) c.in_ok-boxed.ensures in
    let led = fixes_target bench.schema.kind (state_steps c.in_ok-step.step.delta) (present b.timeline) w told.1.takes in
    let within = subst (λ (n : model.Bench). n.timeline.place ≤ length n.timeline.later) (c.self.view_is ∙ same) c.place_is_within.ensures in
    let next : IsNextStep b.timeline label w = record { order = told.1.takes.order; named = told.1.named } in
    subst (IsValidHistory b.schema.kind b.depth) (sym (c.in_ok-append.ensures.ok ∙ unboxed ∙ ap (appended b.timeline label) led))
    (appended-history b.schema.kind b.depth b.timeline label w c.self-2.invariant within few told.1.takes.to next)

pub returns-clause-moves : goal.returns-clause-moves
returns-clause-moves c =
    let b = c.self-2.inside in
    let bench : model.Bench = bench_view b in
    let v = view c.args.line.now.value in
    let same = sym (c.self-2.view_is ∙ c.in_ok-step.ensures.same) in
    let own = c.in_ok-step.ensures.told in
    let w = own.0 in
    let takes = (subst (λ (n : model.Bench). IsToldMove (format_view c.args.format) n c.in_ok-step.step v w) same own.1).takes in
    let label = label_view c.in_ok-step.step.label in
    let unboxed = ap (λ (e : StateDelta × Label). appended b.timeline (label_view e.1) (carry (state_steps e.0) (present b.timeline))) c.in_ok-boxed.ensures in
    let led = fixes_target bench.schema.kind (state_steps c.in_ok-step.step.delta) (present b.timeline) w takes in
    let goes = c.in_ok-append.ensures.ok ∙ unboxed ∙ ap (appended b.timeline label) led in (
      (label, w),
      own.1.move,
      (λ i. record { schema = b.schema; identity = b.identity; depth = b.depth; timeline = goes i })
          ∙ ap (λ (n : model.Bench). with_timeline n (appended n.timeline label w)) (sym same),
    )
