use Rattle.std.proofs.Common.{◌++◌, ap, ◌∙◌}
use Rattle.std.specs.Prelude.{codes, map, string_bytes}
use Rattle.ssa_model.specs.definitions.Json.{compact}
use Rattle.ssa_json.specs.FaultCodes.{code_view}
use Rattle.ssa_lines.specs.FaultTexts.{code_members, names_json}
use Rattle.ssa_lines.proofs.FaultTexts.{code-text-at}
use Rattle.ssa_json.proofs.ItemTexts.{joined}
use Rattle.ssa_lines.proofs.fault_line.push_code_at.Goals as goal

pub returns : goal.returns
returns c =
    let path = names_json (map string_bytes c.args.path.now) in
    let closed = joined _ (compact path) (codes "}") c.in_ok-push_names.ensures c.in_ok-push-2.ensures.items in
    let placed = joined _ (codes ",\"path\":") _ c.in_ok-extend_from_slice.ensures.items closed in
    let told = joined _ (code_members (code_view c.args.code)) _ c.in_ok-push_members.ensures placed in
    joined c.args.text.now.items (codes "{") _ c.in_ok-push.ensures.items told
    ∙ ap (λ t. c.args.text.now.items ++ t) (code-text-at (code_view c.args.code) path)
