use Rattle.std.proofs.Common.{◌++◌, ap, ◌∙◌}
use Rattle.std.specs.Prelude.{codes}
use Rattle.ssa_json.specs.FaultCodes.{code_view}
use Rattle.ssa_lines.specs.FaultTexts.{code_members}
use Rattle.ssa_lines.proofs.FaultTexts.{code-text}
use Rattle.ssa_json.proofs.ItemTexts.{joined}
use Rattle.ssa_lines.proofs.fault_line.push_code.Goals as goal

pub returns : goal.returns
returns c =
    let told = code_members (code_view c.args.code) in
    let closed = joined _ told (codes "}") c.in_ok-push_members.ensures c.in_ok-push-2.ensures.items in
    joined c.args.text.now.items (codes "{") (told ++ codes "}") c.in_ok-push.ensures.items closed
    ∙ ap (λ t. c.args.text.now.items ++ t) (code-text (code_view c.args.code))
