use Rattle.std.proofs.Common.{◌∙◌, subst}
use Rattle.std.proofs.lemmas.Result.{on_ok_weaker as on-ok}
use Rattle.ssa_json.specs.View.{view}
use Rattle.ssa_lines.specs.Saving.{CannotHold}
use Rattle.ssa_lines.proofs.SavingFacts.{line-ended}
use Rattle.std.proofs.lemmas.Result.{IfErr-weaker}
use Rattle.ssa_lines.proofs.saving.push_line.Goals as goal

pub returns-clause-ok : goal.returns-clause-ok
returns-clause-ok c =
    on-ok c.end_line.result (λ h. h ∙ line-ended c.args.text.now.items (view c.args.value.now) c.in_ok-push_text.ensures.text) c.end_line.ensures.ok

pub returns-clause-of_program : goal.returns-clause-of_program
returns-clause-of_program c = on-ok c.end_line.result (λ _. c.in_ok-push_text.ensures.of_program) c.end_line.ensures.ok

pub returns-clause-refused : goal.returns-clause-refused
returns-clause-refused c =
    IfErr-weaker c.end_line.result _ _
    (λ f h. subst (CannotHold f) (line-ended c.args.text.now.items (view c.args.value.now) c.in_ok-push_text.ensures.text) h)
    c.end_line.ensures.refused
