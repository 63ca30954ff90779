use Rattle.std.proofs.Common.{arith, rules, ◌≢◌, [], true≢false, Ok, ap, sym, ◌∙◌}
use Rattle.ssa_model.specs.definitions.Limits.{most_line_bytes}
use Rattle.ssa_session.proofs.SessionFacts.{IsAtEnd-consumed, SoFar-none, SoFar-more, AnswersWhole-fault, AnswersAll-last, AnswersPartly-whole, AnswersPartly-last}
use Rattle.ssa_session.proofs.engine.session.Goals as goal

pub loop-end-init : goal.loop-end-init
loop-end-init g c = record { answered = SoFar-none _ _ _ _ _; handed_on = λ h. h; ends = search rules; watched = g.met.T.Watcher.stays _ }

pub returns-in_default-clause-reader : goal.returns-in_default-clause-reader
returns-in_default-clause-reader g c =
    λ _. AnswersWhole-fault _ _ _ _ _ _ _ (g.W.Sink.contents c.loop-end.writer) _ _ c.loop-end.machine _ c.loop-end.invariant.answered
    (rw c.in_default.is at c.read_line.ensures.takes)

pub loop-end-preserved : goal.loop-end-preserved
loop-end-preserved g c =
    let taken = rw c.in-LineFeed.is at c.in-Ok.ensures.takes in
    record {
      answered = SoFar-more _ _ _ _ _ _ _ _ _ _ _ _ c.loop-end.invariant.answered taken (c.in-Ok-answer_line.ensures.ok taken.text taken.held);
      handed_on = λ _. c.in-Ok-answer_line.ensures.handed_on;
      ends = omega (arith, c.in-Ok.ensures.ends, c.loop-end.invariant.ends);
      watched = g.met.T.Watcher.goes_on _ _ _ c.loop-end.invariant.watched c.look.ensures;
    }

pub returns-in_default-answer_line-clause-writer : goal.returns-in_default-answer_line-clause-writer
returns-in_default-answer_line-clause-writer g c =
    let taken = rw c.in-LineFeed.is at c.in-Ok.ensures.takes in
    λ _. AnswersPartly-whole _ _ _ _ _ _ _ _ _ _ _ _ c.loop-end.invariant.answered taken (c.in_default-answer_line.ensures.err taken.text taken.held)

pub returns-in_default-answer_line-2-clause-writer : goal.returns-in_default-answer_line-2-clause-writer
returns-in_default-answer_line-2-clause-writer g c =
    let taken = rw c.in-EndOfInput.is at c.in-Ok.ensures.takes in
    let end = IsAtEnd-consumed _ _ _ _ c.loop-end.invariant.answered.read (c.in-Ok.ensures.end (ap Ok c.in-EndOfInput.is)) in
    let some : taken.text ≢ [] = λ none. true≢false (sym ((c.is_empty.ensures most_line_bytes taken.text taken.held).1 none) ∙ c.if-is_empty.false) in
    λ _. AnswersPartly-last _ _ _ _ _ _ _ _ _ _ _ _ c.loop-end.invariant.answered taken some end (c.in_default-answer_line-2.ensures.err taken.text taken.held)

pub returns-in-EndOfInput-clause-ok : goal.returns-in-EndOfInput-clause-ok
returns-in-EndOfInput-clause-ok g c =
    let taken = rw c.in-EndOfInput.is at c.in-Ok.ensures.takes in
    let some : taken.text ≢ [] = λ none. true≢false (sym ((c.is_empty.ensures most_line_bytes taken.text taken.held).1 none) ∙ c.if-is_empty.false) in
    AnswersAll-last _ _ _ _ _ _ _ _ _ _ _ _ c.loop-end.invariant.answered taken some (c.in-Ok-answer_line-2.ensures.ok taken.text taken.held)

pub returns-in-EndOfInput-clause-watched : goal.returns-in-EndOfInput-clause-watched
returns-in-EndOfInput-clause-watched g c = g.met.T.Watcher.goes_on _ _ _ c.loop-end.invariant.watched c.look-in-EndOfInput.ensures
