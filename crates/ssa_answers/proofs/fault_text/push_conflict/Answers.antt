use Rattle.std.specs.Prelude.{codes}
use Rattle.ssa_model.specs.definitions.Json.{compact}
use Rattle.ssa_model.specs.definitions.Faults.{conflict}
use Rattle.ssa_answers.specs.Replies.{clashes_json}
use Rattle.ssa_lines.specs.FaultTexts.{code_members}
use Rattle.ssa_json.proofs.ItemTexts.{joined}
use Rattle.ssa_answers.proofs.fault_text.push_conflict.Goals as goal

pub returns : goal.returns
returns c =
    let closed = joined _ (code_members conflict) (codes "}") c.in_ok-push_members.ensures c.in_ok-push-2.ensures.items in
    let told = joined _ (codes ",") _ c.in_ok-push.ensures.items closed in
    let listed = joined _ (compact (clashes_json c.args.clashes.now)) _ c.in_ok-push_clashes.ensures told in
    let whole = joined c.args.text.now.items (codes "{\"conflicts\":") _ c.in_ok-extend_from_slice.ensures.items listed in
    whole
