use Rattle.std.proofs.Common.{option_map, option_and_then, ap, ◌∙◌, sym}
use Rattle.ssa_json.specs.View.{view, items_view}
use Rattle.ssa_told.specs.PathTexts.{as_list}
use Rattle.ssa_told.proofs.value_shape.list_of.Goals as goal

pub returns-in_err-find_member : goal.returns-in_err-find_member
returns-in_err-find_member c =
    ap (option_map (λ t. items_view t.now)) c.from_residual.ensures
    ∙ ap (option_and_then as_list) (sym (ap (option_map (λ v. view v.now)) c.in_err-find_member.was) ∙ c.find_member.ensures)

pub returns : goal.returns
returns c = c.as_list.ensures ∙ ap (option_and_then as_list) (sym (ap (option_map (λ v. view v.now)) c.in_ok-find_member.was) ∙ c.find_member.ensures)
