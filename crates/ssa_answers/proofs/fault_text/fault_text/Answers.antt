use Rattle.std.proofs.Common.{◌++◌, ap, ◌∙◌}
use Rattle.ssa_model.specs.definitions.Json.{compact}
use Rattle.ssa_answers.specs.Replies.{bench_json}
use Rattle.ssa_answers.proofs.FaultFacts.{bench_json-told}
use Rattle.ssa_answers.proofs.fault_text.fault_text.Goals as goal

pub returns : goal.returns
returns c =
    λ g told. c.in_ok-push_fault.ensures ∙ ap (λ t. t ++ compact (bench_json c.args.fault.now)) c.in_ok-text.ensures.items
    ∙ ap compact (bench_json-told c.args.fault.now g told)
