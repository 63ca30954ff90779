-- The line of a record of the history is that of its step.
use Rattle.std.proofs.Common.{◌++◌, ap, subst, ◌∙◌}
use Rattle.ssa_model.specs.definitions.BenchText.{line}
use Rattle.ssa_model.specs.definitions.HistoryRecords.{kept_from, kept_to}
use Rattle.ssa_model.specs.definitions.RecordedBench.{record_line}
use Rattle.ssa_json.specs.Writable.{IsOfProgram}
use Rattle.ssa_turn.specs.Histories.{label_view}
use Rattle.ssa_turn_state.specs.States.{state_steps}
use Rattle.ssa_lines.specs.Saving.{CannotHold}
use Rattle.ssa_file.specs.Recording.{bench_with}
use Rattle.ssa_lines.proofs.SavingFacts.{line-ended}
use Rattle.ssa_file.proofs.RecordingFacts.{kept-is, kept-takes}
use Rattle.ssa_file.proofs.Walking.{step-there}
use Rattle.std.proofs.lemmas.Result.{IfErr-weaker}
use Rattle.ssa_file.proofs.recording.push_record.Goals as goal
use Rattle.std.proofs.lemmas.Result.{on_ok_weaker as on-ok}

pub push_step-requires-clause-taken : goal.push_step-requires-clause-taken
push_step-requires-clause-taken c =
    let t = c.args.history.now in
    let n = c.args.n in
    let there = step-there t.later n c.requires.within in
    let steps = state_steps c.in-Some.entry.0.now in
    (kept_from t n, kept_to t n, kept-takes c.args.schema.now.kind t n there.0 steps c.requires.valid there.1 c.in-Some.ensures.steps)

pub push_step-requires-clause-room : goal.push_step-requires-clause-room
push_step-requires-clause-room c = (kept_from c.args.history.now c.args.n, c.in-Some.ensures.room)

pub returns-clause-ok : goal.returns-clause-ok
returns-clause-ok c =
    let t = c.args.history.now in
    let n = c.args.n in
    let steps = state_steps c.in-Some.entry.0.now in
    let label = label_view c.in-Some.entry.1.now in
    let made = record_line (bench_with c.args.schema.now c.args.identity.now t) label (kept_from t n) (kept_to t n) in
    on-ok c.end_line.result
    (λ h s here. h ∙ line-ended c.args.text.now.items made
    (c.in_ok-push_step-in-Some.ensures.text t (kept_from t n) (kept_to t n) (kept-takes c.args.schema.now.kind t n s steps c.requires.valid here c.in-Some.ensures.steps))
    ∙ ap (λ v. c.args.text.now.items ++ line v) (kept-is c.args.schema.now c.args.identity.now t n s label here c.in-Some.ensures.command))
    c.end_line.ensures.ok

pub returns-clause-of_program : goal.returns-clause-of_program
returns-clause-of_program c =
    let t = c.args.history.now in
    let n = c.args.n in
    let steps = state_steps c.in-Some.entry.0.now in
    let label = label_view c.in-Some.entry.1.now in
    on-ok c.end_line.result
    (λ h s here. subst IsOfProgram (kept-is c.args.schema.now c.args.identity.now t n s label here c.in-Some.ensures.command)
    (c.in_ok-push_step-in-Some.ensures.of_program t (kept_from t n) (kept_to t n)
    (kept-takes c.args.schema.now.kind t n s steps c.requires.valid here c.in-Some.ensures.steps)))
    c.end_line.ensures.ok

pub returns-clause-refused : goal.returns-clause-refused
returns-clause-refused c =
    let t = c.args.history.now in
    let n = c.args.n in
    let steps = state_steps c.in-Some.entry.0.now in
    let label = label_view c.in-Some.entry.1.now in
    let made = record_line (bench_with c.args.schema.now c.args.identity.now t) label (kept_from t n) (kept_to t n) in
    IfErr-weaker c.end_line.result _ _
    (λ f h s here. subst (CannotHold f) (line-ended c.args.text.now.items made
    (c.in_ok-push_step-in-Some.ensures.text t (kept_from t n) (kept_to t n) (kept-takes c.args.schema.now.kind t n s steps c.requires.valid here c.in-Some.ensures.steps))
    ∙ ap (λ v. c.args.text.now.items ++ line v) (kept-is c.args.schema.now c.args.identity.now t n s label here c.in-Some.ensures.command))
    h)
    c.end_line.ensures.refused
