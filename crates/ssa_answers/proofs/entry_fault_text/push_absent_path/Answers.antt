use Rattle.std.specs.Prelude.{codes}
use Rattle.ssa_model.specs.definitions.Json.{compact}
use Rattle.ssa_model.specs.definitions.Faults.{absent_path}
use Rattle.ssa_model.specs.definitions.Replies.{path_json}
use Rattle.ssa_lines.specs.FaultTexts.{code_members}
use Rattle.ssa_json.proofs.ItemTexts.{joined}
use Rattle.ssa_answers.proofs.entry_fault_text.push_absent_path.Goals as goal

pub returns : goal.returns
returns c =
    let closed = joined _ (compact (path_json c.args.path.now)) (codes "}") c.in_ok-push_path.ensures.text c.in_ok-push-2.ensures.items in
    let placed = joined _ (codes ",\"path\":") _ c.in_ok-extend_from_slice.ensures.items closed in
    let told = joined _ (code_members absent_path) _ c.in_ok-push_members.ensures placed in
    let whole = joined c.args.text.now.items (codes "{") _ c.in_ok-push.ensures.items told in
    whole
