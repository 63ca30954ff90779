use Rattle.std.proofs.Common.{◌∙◌, sym}
use Rattle.ssa_model.specs.definitions.Answers.{nothing_to_undo}
use Rattle.ssa_session.proofs.RefusedMoves.{move-refused, undo-refused}
use Rattle.ssa_session.proofs.bench_machine.answer_undo.Goals as goal

pub returns-then-past-eq0-clause-reply : goal.returns-then-past-eq0-clause-reply
returns-then-past-eq0-clause-reply c =
    move-refused c.refused.result (λ a. a.text.items) nothing_to_undo _
    (undo-refused c.args.bench.now (sym c.past_len-past.ensures.count ∙ c.if-past-eq0.true)) c.refused.ensures.text
