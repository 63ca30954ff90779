-- The lines of the future, one after the other.
use Rattle.std.proofs.Common.{◌<◌, ◌≤◌, ◌++◌, flat_map, length, ap, sym, subst, arith}
use Rattle.std.specs.List.{All}
use Rattle.std.proofs.lemmas.List.Elements.{All-nil}
use Rattle.ssa_model.specs.definitions.BenchText.{line}
use Rattle.ssa_json.specs.Writable.{IsOfProgram}
use Rattle.ssa_file.specs.Recording.{kept_value}
use Rattle.ssa_file.proofs.RecordingFacts.{all-made, future-done, future-line, future_left, made-next, of_program-next, refused-next}
use Rattle.ssa_model.proofs.Results.{handed-on}
use Rattle.ssa_file.proofs.recording.push_future.Goals as goal

pub loop-n-init : goal.loop-n-init
loop-n-init c =
    let t = c.args.history.now in
    let left = future_left c.args.schema.now c.args.identity.now t in
    let place = c.past_len-past.ensures.count in
    record {
      behind = omega arith;
      made = ap (λ n. c.args.text.now.items ++ flat_map line (left n)) place;
      fits = c.requires.few;
      of_program = λ h. subst (λ n. All IsOfProgram (left n)) place h;
    }

pub loop-n-preserved : goal.loop-n-preserved
loop-n-preserved c =
    let schema = c.args.schema.now in
    let identity = c.args.identity.now in
    let t = c.args.history.now in
    let n = c.loop-n.n in
    let place = c.past_len-past.ensures.count in
    let counted = c.future_len.ensures.count in
    let behind : t.place ≤ n = omega (arith, place, c.loop-n.invariant.behind) in
    let within : n < length t.later = omega (arith, place, counted, c.place_is_within.ensures, c.loop-n-test.true) in
    let next = future-line schema identity t n behind within in
    let value = kept_value schema identity t n next.step in
    record {
      behind = omega (arith, c.loop-n.invariant.behind);
      made = made-next c.loop-n.text.items _ _ value _ _ next.left_is c.loop-n.invariant.made (c.in_ok-push_record.ensures.ok next.step next.here);
      fits = c.in_ok-push_record.ensures.fits;
      of_program = λ rest. c.loop-n.invariant.of_program
          (of_program-next value _ _ next.left_is (c.in_ok-push_record.ensures.of_program next.step next.here) rest);
    }

pub returns-in_err-push_record-clause-refused : goal.returns-in_err-push_record-clause-refused
returns-in_err-push_record-clause-refused c =
    let schema = c.args.schema.now in
    let identity = c.args.identity.now in
    let t = c.args.history.now in
    let n = c.loop-n.n in
    let place = c.past_len-past.ensures.count in
    let counted = c.future_len.ensures.count in
    let behind : t.place ≤ n = omega (arith, place, c.loop-n.invariant.behind) in
    let within : n < length t.later = omega (arith, place, counted, c.place_is_within.ensures, c.loop-n-test.true) in
    let next = future-line schema identity t n behind within in
    let value = kept_value schema identity t n next.step in
    let fault = c.in_err-push_record.field-0.0 in
    handed-on c.from_residual.result fault _ c.from_residual.ensures.1
    (refused-next fault c.loop-n.text.items _ value _ _ next.left_is c.loop-n.invariant.made (c.in_err-push_record.ensures.refused next.step next.here))

pub returns-clause-ok : goal.returns-clause-ok
returns-clause-ok c =
    let t = c.args.history.now in
    let place = c.past_len-past.ensures.count in
    let counted = c.future_len.ensures.count in
    let beyond : length t.later ≤ c.loop-n.n = omega (arith, place, counted, c.place_is_within.ensures, c.loop-n-test.false) in
    all-made c.loop-n.text.items _ _ (future-done c.args.schema.now c.args.identity.now t c.loop-n.n beyond) c.loop-n.invariant.made

pub returns-clause-of_program : goal.returns-clause-of_program
returns-clause-of_program c =
    let t = c.args.history.now in
    let place = c.past_len-past.ensures.count in
    let counted = c.future_len.ensures.count in
    let beyond : length t.later ≤ c.loop-n.n = omega (arith, place, counted, c.place_is_within.ensures, c.loop-n-test.false) in
    c.loop-n.invariant.of_program
    (subst (All IsOfProgram) (sym (future-done c.args.schema.now c.args.identity.now t c.loop-n.n beyond)) (All-nil IsOfProgram))
