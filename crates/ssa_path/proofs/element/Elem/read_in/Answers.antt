use Rattle.std.proofs.Common.{rules, sym, ◌∙◌}
use Rattle.ssa_model.proofs.Tables.{same_text-true}
use Rattle.ssa_path.proofs.OwnTexts.{own-text-of-none}
use Rattle.ssa_path.proofs.element.Elem.read_in.Goals as goal

pub returns-in_default-clause-answers : goal.returns-in_default-clause-answers
returns-in_default-clause-answers c = search rules

pub returns-in_default-clause-of_none : goal.returns-in_default-clause-of_none
returns-in_default-clause-of_none c = own-text-of-none c.args.text.now _ (returns-in_default-clause-answers c)

pub returns-then-branch-clause-own : goal.returns-then-branch-clause-own
returns-then-branch-clause-own c =
    (c.in_ok-has_text.ensures.of_program, same_text-true _ _ (sym c.in_ok-has_text.ensures.same ∙ c.if-branch.true))

pub returns-else-branch-clause-answers : goal.returns-else-branch-clause-answers
returns-else-branch-clause-answers c = search rules

pub returns-else-branch-clause-of_none : goal.returns-else-branch-clause-of_none
returns-else-branch-clause-of_none c = own-text-of-none c.args.text.now _ (returns-else-branch-clause-answers c)
