use Rattle.std.proofs.Common.{refl}
use Rattle.std.proofs.lemmas.Result.{on_ok_weaker, on_err_weaker}
use Rattle.ssa_session.proofs.AnswerFacts.{AnswersLine-too_long, AnswersLine-refused}
use Rattle.ssa_session.proofs.engine.answer_line.Goals as goal

pub returns-in-TooLong-clause-ok : goal.returns-in-TooLong-clause-ok
returns-in-TooLong-clause-ok g c =
    on_ok_weaker c.write_fault.result (λ writes text held. AnswersLine-too_long _ _ _ text _ (rw c.in-TooLong.is at held) writes) c.write_fault.ensures.ok

pub returns-in-TooLong-clause-err : goal.returns-in-TooLong-clause-err
returns-in-TooLong-clause-err g c =
    on_err_weaker c.write_fault.result (λ writes text held. AnswersLine-too_long _ _ _ text _ (rw c.in-TooLong.is at held) writes) c.write_fault.ensures.err

pub returns-in-OutOfMemory-clause-ok : goal.returns-in-OutOfMemory-clause-ok
returns-in-OutOfMemory-clause-ok g c =
    on_ok_weaker c.write_fault-in-OutOfMemory.result (λ writes text held. AnswersLine-refused _ _ _ _ text _ refl writes)
    c.write_fault-in-OutOfMemory.ensures.ok

pub returns-in-OutOfMemory-clause-err : goal.returns-in-OutOfMemory-clause-err
returns-in-OutOfMemory-clause-err g c =
    on_err_weaker c.write_fault-in-OutOfMemory.result (λ writes text held. AnswersLine-refused _ _ _ _ text _ refl writes)
    c.write_fault-in-OutOfMemory.ensures.err

pub returns-in-Err-clause-ok : goal.returns-in-Err-clause-ok
returns-in-Err-clause-ok g c =
    on_ok_weaker c.write_fault-in-Err.result (λ writes text held. AnswersLine-refused _ _ _ _ text _ c.in-Err.ensures.err writes)
    c.write_fault-in-Err.ensures.ok

pub returns-in-Err-clause-err : goal.returns-in-Err-clause-err
returns-in-Err-clause-err g c =
    on_err_weaker c.write_fault-in-Err.result (λ writes text held. AnswersLine-refused _ _ _ _ text _ c.in-Err.ensures.err writes)
    c.write_fault-in-Err.ensures.err
