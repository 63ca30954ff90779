-- The text of the three lines in front of the records.
use Rattle.std.proofs.Common.{[], ◌++◌, refl, sym, ap, subst, ◌∙◌, append_assoc}
use Rattle.ssa_model.specs.definitions.BenchText.{depths, line, whole_object}
use Rattle.ssa_model.specs.definitions.Fitting.{IsBodyOf}
use Rattle.ssa_model.specs.definitions.Operations.{State}
use Rattle.ssa_model.specs.definitions.RecordedBench.{record_head}
use Rattle.ssa_model.proofs.ValidTimelines.{present_valid}
use Rattle.ssa_json.specs.View.{view}
use Rattle.ssa_file.specs.Recording.{bench_of}
use Rattle.ssa_file.proofs.RecordingFacts.{opening-is}
use Rattle.ssa_model.proofs.Results.{handed-on}
use Rattle.ssa_lines.proofs.SavingFacts.{lines-refused}
use Rattle.ssa_file.proofs.recording.opening_text.Goals as goal

pub object_of_state-requires : goal.object_of_state-requires
object_of_state-requires c =
    let kind = c.args.schema.now.kind in
    let of_kind : State → Type 0 = λ s. IsBodyOf kind s.body in
    subst of_kind (sym c.present.ensures) (present_valid kind c.args.history.now c.requires.valid.states).fits

pub returns-in_err-push_line-2-clause-refused : goal.returns-in_err-push_line-2-clause-refused
returns-in_err-push_line-2-clause-refused c =
    let schema = c.args.schema.now in
    let identity = c.args.identity.now in
    let n = c.args.depth.now in
    let t = c.args.history.now in
    let text = c.push_line.new.text.items in
    let source = view c.json.result.now in
    let now = view c.in_ok-present.present in
    let fault = c.in_err-push_line-2.field-0.0 in
    let head = c.in_ok-head.ensures ∙ (λ i. record_head depths n (c.past_len.ensures.count i) (c.future_len.ensures.count i)) in
    let object = c.in_ok-present.ensures ∙ ap (whole_object (bench_of schema identity n t)) c.present.ensures in
    let whole = sym (append_assoc text (line source) (line now ++ []))
    ∙ opening-is depths schema identity n t c.new-text.result.items text (text ++ line source) (view c.in_ok-head.head) source now
    c.new-text.ensures.items c.in_ok-push_line.ensures.ok refl head c.json.ensures object in
    handed-on c.from_residual-in_err-push_line-2.result fault _ c.from_residual-in_err-push_line-2.ensures.1
    (lines-refused fault text (line source) (line now ++ []) _ whole c.in_err-push_line-2.ensures.refused)

pub returns-in_err-push_line-3-clause-refused : goal.returns-in_err-push_line-3-clause-refused
returns-in_err-push_line-3-clause-refused c =
    let schema = c.args.schema.now in
    let identity = c.args.identity.now in
    let n = c.args.depth.now in
    let t = c.args.history.now in
    let text = c.push_line-2.new.text.items in
    let source = view c.json.result.now in
    let now = view c.in_ok-present.present in
    let fault = c.in_err-push_line-3.field-0.0 in
    let head = c.in_ok-head.ensures ∙ (λ i. record_head depths n (c.past_len.ensures.count i) (c.future_len.ensures.count i)) in
    let object = c.in_ok-present.ensures ∙ ap (whole_object (bench_of schema identity n t)) c.present.ensures in
    let whole =
    opening-is depths schema identity n t c.new-text.result.items c.push_line.new.text.items text (view c.in_ok-head.head) source now
    c.new-text.ensures.items c.in_ok-push_line.ensures.ok c.in_ok-push_line-2.ensures.ok head c.json.ensures object in
    handed-on c.from_residual-in_err-push_line-3.result fault _ c.from_residual-in_err-push_line-3.ensures.1
    (lines-refused fault text (line now) [] _ whole c.in_err-push_line-3.ensures.refused)
