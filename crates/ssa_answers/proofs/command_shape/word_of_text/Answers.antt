use Rattle.std.proofs.Common.{sym, ◌∙◌}
use Rattle.ssa_model.proofs.Tables.{same_text-true}
use Rattle.ssa_answers.proofs.CommandFacts.{rule_of-other}
use Rattle.ssa_answers.proofs.command_shape.word_of_text.Goals as goal

pub returns-then-is_same_text : goal.returns-then-is_same_text
returns-then-is_same_text c = same_text-true _ _ (sym c.is_same_text.ensures ∙ c.if-is_same_text.true)

pub returns-then-is_same_text-2 : goal.returns-then-is_same_text-2
returns-then-is_same_text-2 c = same_text-true _ _ (sym c.is_same_text-else-is_same_text.ensures ∙ c.if-is_same_text-2.true)

pub returns-then-is_same_text-3 : goal.returns-then-is_same_text-3
returns-then-is_same_text-3 c = same_text-true _ _ (sym c.is_same_text-else-is_same_text-2.ensures ∙ c.if-is_same_text-3.true)

pub returns-then-is_same_text-4 : goal.returns-then-is_same_text-4
returns-then-is_same_text-4 c = same_text-true _ _ (sym c.is_same_text-else-is_same_text-3.ensures ∙ c.if-is_same_text-4.true)

pub returns-then-is_same_text-5 : goal.returns-then-is_same_text-5
returns-then-is_same_text-5 c = same_text-true _ _ (sym c.is_same_text-else-is_same_text-4.ensures ∙ c.if-is_same_text-5.true)

pub returns-then-is_same_text-6 : goal.returns-then-is_same_text-6
returns-then-is_same_text-6 c = same_text-true _ _ (sym c.is_same_text-else-is_same_text-5.ensures ∙ c.if-is_same_text-6.true)

pub returns-then-is_same_text-7 : goal.returns-then-is_same_text-7
returns-then-is_same_text-7 c = same_text-true _ _ (sym c.is_same_text-else-is_same_text-6.ensures ∙ c.if-is_same_text-7.true)

pub returns-then-is_same_text-8 : goal.returns-then-is_same_text-8
returns-then-is_same_text-8 c = same_text-true _ _ (sym c.is_same_text-else-is_same_text-7.ensures ∙ c.if-is_same_text-8.true)

pub returns-else-is_same_text-8 : goal.returns-else-is_same_text-8
returns-else-is_same_text-8 c =
    rule_of-other c.args.text.now (sym c.is_same_text.ensures ∙ c.if-is_same_text.false) (sym c.is_same_text-else-is_same_text.ensures
    ∙ c.if-is_same_text-2.false)
    (sym c.is_same_text-else-is_same_text-2.ensures ∙ c.if-is_same_text-3.false) (sym c.is_same_text-else-is_same_text-3.ensures ∙ c.if-is_same_text-4.false)
    (sym c.is_same_text-else-is_same_text-4.ensures ∙ c.if-is_same_text-5.false) (sym c.is_same_text-else-is_same_text-5.ensures ∙ c.if-is_same_text-6.false)
    (sym c.is_same_text-else-is_same_text-6.ensures ∙ c.if-is_same_text-7.false) (sym c.is_same_text-else-is_same_text-7.ensures ∙ c.if-is_same_text-8.false)
