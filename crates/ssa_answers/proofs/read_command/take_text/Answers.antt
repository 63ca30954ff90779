use Rattle.std.proofs.Common.{option_map, option_and_then, ap, ◌∙◌, sym}
use Rattle.ssa_members.specs.Texts.{text_bytes}
use Rattle.ssa_model.specs.definitions.Json.{as_text}
use Rattle.ssa_json.specs.View.{view}
use Rattle.ssa_json.specs.Lookups.{view-lookup}
use Rattle.ssa_answers.proofs.read_command.take_text.Goals as goal

pub returns-in_err-remove : goal.returns-in_err-remove
returns-in_err-remove c =
    let found = ap (option_map view) c.remove.ensures.value ∙ view-lookup c.args.name.now c.args.members.now.entries in
    ap (option_map (λ t. text_bytes t)) c.from_residual.ensures ∙ ap (option_and_then as_text) (sym (ap (option_map view) c.in_err-remove.was) ∙ found)

pub returns : goal.returns
returns c =
    let found = ap (option_map view) c.remove.ensures.value ∙ view-lookup c.args.name.now c.args.members.now.entries in
    c.into_text.ensures ∙ ap (option_and_then as_text) (sym (ap (option_map view) c.in_ok-remove.was) ∙ found)
