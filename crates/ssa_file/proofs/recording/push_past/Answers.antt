-- The lines of the past, one after the other.
use Rattle.std.proofs.Common.{◌≡◌, ◌-◌, ◌++◌, flat_map, ap, subst, arith}
use Rattle.std.specs.List.{All}
use Rattle.std.proofs.lemmas.List.Elements.{All-nil}
use Rattle.ssa_model.specs.definitions.BenchText.{line}
use Rattle.ssa_json.specs.Writable.{IsOfProgram}
use Rattle.ssa_file.specs.Recording.{kept_value}
use Rattle.ssa_file.proofs.RecordingFacts.{all-made, made-next, of_program-next, past-line, past_left, refused-next}
use Rattle.ssa_model.proofs.Results.{handed-on}
use Rattle.ssa_file.proofs.recording.push_past.Goals as goal

pub loop-done-init : goal.loop-done-init
loop-done-init c =
    let left = past_left c.args.schema.now c.args.identity.now c.args.history.now in
    let all : c.past_len-past.result - 0 ≡ c.args.history.now.place = omega (arith, c.past_len-past.ensures.count) in
    record {
      made = ap (λ n. c.args.text.now.items ++ flat_map line (left n)) all;
      fits = c.requires.few;
      of_program = λ h. subst (λ n. All IsOfProgram (left n)) all h;
    }

pub loop-done-preserved : goal.loop-done-preserved
loop-done-preserved c =
    let schema = c.args.schema.now in
    let identity = c.args.identity.now in
    let t = c.args.history.now in
    let past = c.past_len-past.result in
    let done = c.loop-done.done in
    let next = past-line schema identity t past done c.past_len-past.ensures.count c.place_is_within.ensures c.loop-done-test.true in
    let value = kept_value schema identity t (past - 1 - done) next.step in
    record {
      made = made-next c.loop-done.text.items _ _ value _ _ next.left_is c.loop-done.invariant.made (c.in_ok-push_record.ensures.ok next.step next.here);
      fits = c.in_ok-push_record.ensures.fits;
      of_program = λ behind. c.loop-done.invariant.of_program
          (of_program-next value _ _ next.left_is (c.in_ok-push_record.ensures.of_program next.step next.here) behind);
    }

pub returns-in_err-push_record-clause-refused : goal.returns-in_err-push_record-clause-refused
returns-in_err-push_record-clause-refused c =
    let schema = c.args.schema.now in
    let identity = c.args.identity.now in
    let t = c.args.history.now in
    let past = c.past_len-past.result in
    let done = c.loop-done.done in
    let next = past-line schema identity t past done c.past_len-past.ensures.count c.place_is_within.ensures c.loop-done-test.true in
    let value = kept_value schema identity t (past - 1 - done) next.step in
    let fault = c.in_err-push_record.field-0.0 in
    handed-on c.from_residual.result fault _ c.from_residual.ensures.1
    (refused-next fault c.loop-done.text.items _ value _ _ next.left_is c.loop-done.invariant.made (c.in_err-push_record.ensures.refused next.step next.here))

pub returns-clause-ok : goal.returns-clause-ok
returns-clause-ok c =
    let left = past_left c.args.schema.now c.args.identity.now c.args.history.now in
    let none : c.past_len-past.result - c.loop-done.done ≡ 0 = omega (arith, c.loop-done-test.false) in
    all-made c.loop-done.text.items _ _ (ap left none) c.loop-done.invariant.made

pub returns-clause-of_program : goal.returns-clause-of_program
returns-clause-of_program c =
    let left = past_left c.args.schema.now c.args.identity.now c.args.history.now in
    let none : 0 ≡ c.past_len-past.result - c.loop-done.done = omega (arith, c.loop-done-test.false) in
    c.loop-done.invariant.of_program (subst (λ n. All IsOfProgram (left n)) none (All-nil IsOfProgram))
