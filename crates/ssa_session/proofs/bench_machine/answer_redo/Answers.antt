use Rattle.std.proofs.Common.{◌∙◌, sym}
use Rattle.ssa_model.specs.definitions.Answers.{nothing_to_redo}
use Rattle.ssa_session.proofs.RefusedMoves.{move-refused, redo-refused}
use Rattle.ssa_session.proofs.bench_machine.answer_redo.Goals as goal

pub returns-then-future-eq0-clause-reply : goal.returns-then-future-eq0-clause-reply
returns-then-future-eq0-clause-reply c =
    move-refused c.refused.result (λ a. a.text.items) nothing_to_redo _
    (redo-refused c.args.bench.now (sym c.future_len-future.ensures.count ∙ c.if-future-eq0.true)) c.refused.ensures.text
