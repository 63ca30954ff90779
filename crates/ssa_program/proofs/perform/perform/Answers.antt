use Rattle.std.proofs.Common.{inr}
use Rattle.ssa_program.proofs.perform.perform.Goals as goal

pub returns-clause-performed : goal.returns-clause-performed
returns-clause-performed g c = λ tells. inr (record {
  trouble = c.in-Err.trouble;
  writer_then = c.carry_out.new.writer;
  stopped = c.in-Err.ensures.stopped tells;
  named = c.in-Err.ensures.named;
  errors_begun = c.carry_out.new.errors;
  begun = c.in-Err.ensures.begun;
  errors_then = c.tell_trouble-status.new.errors;
  tells = c.tell_trouble-status.ensures.told;
  status = c.tell_trouble-status.result;
  ends = c.tell_trouble-status.ensures.status;
  code_is = c.code-in-Err.ensures;
  noted = c.tell-in-Err.ensures;
})
