use Rattle.std.proofs.Common.{◌++◌, ap, ◌∙◌}
use Rattle.std.proofs.lemmas.Result.{on_ok_weaker}
use Rattle.ssa_model.specs.definitions.Json.{compact}
use Rattle.ssa_model.specs.definitions.Replies.{fault_json}
use Rattle.ssa_answers.proofs.FaultFacts.{plain-json}
use Rattle.ssa_answers.proofs.fault_text.push_fault.Goals as goal

pub returns-in_default : goal.returns-in_default
returns-in_default c =
    let plain = plain-json c.args.fault.now c.in_default.not-Body c.in_default.not-Conflict c.in_default.not-Entry in
    on_ok_weaker c.push_code.result (λ is. is ∙ ap (λ v. c.args.text.now.items ++ compact v) (ap fault_json c.code.ensures ∙ plain)) c.push_code.ensures
