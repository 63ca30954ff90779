use Rattle.std.proofs.Common.{option_map, option_and_then, ap, ◌∙◌, sym}
use Rattle.ssa_model.specs.definitions.Json.{as_text}
use Rattle.ssa_json.specs.View.{view}
use Rattle.ssa_told.proofs.value_shape.text_of.Goals as goal

pub returns-in_err-find_member : goal.returns-in_err-find_member
returns-in_err-find_member c =
    ap (option_map (λ t. t.now)) c.from_residual.ensures
    ∙ ap (option_and_then as_text) (sym (ap (option_map (λ v. view v.now)) c.in_err-find_member.was) ∙ c.find_member.ensures)

pub returns : goal.returns
returns c = c.as_text.ensures ∙ ap (option_and_then as_text) (sym (ap (option_map (λ v. view v.now)) c.in_ok-find_member.was) ∙ c.find_member.ensures)
