use Rattle.ssa_turn.proofs.LabelTexts.{stripped-of-program, stripped-written}
use Rattle.ssa_turn.proofs.label.push_stripped.Goals as goal

pub returns-clause-text : goal.returns-clause-text
returns-clause-text c =
    stripped-written c.args.text.now.items c.in_ok-push.ensures.items
    c.in_ok-push_text_member.ensures.text
    c.in_ok-push-2.ensures.items

pub returns-clause-of_program : goal.returns-clause-of_program
returns-clause-of_program c =
    stripped-of-program
    c.in_ok-push_text_member.ensures.utf8 c.in_ok-push_text_member.ensures.of_program
