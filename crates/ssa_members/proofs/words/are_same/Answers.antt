use Rattle.std.proofs.Common.{sym, ◌∙◌, arith}
use Rattle.ssa_members.proofs.Eights.{told-by_last}
use Rattle.ssa_members.proofs.words.are_same.Goals as goal

pub returns-then-are_four_same : goal.returns-then-are_four_same
returns-then-are_four_same c =
    c.are_four_same-then-are_four_same.ensures
    ∙ told-by_last 4 c.args.text.now c.args.other.now c.requires (omega arith) (omega arith) (sym c.are_four_same.ensures ∙ c.if-are_four_same.true)

pub returns-then-are_eight_same : goal.returns-then-are_eight_same
returns-then-are_eight_same c =
    c.are_eight_same-then-are_eight_same.ensures
    ∙ told-by_last 8 c.args.text.now c.args.other.now c.requires (omega arith) (omega arith) (sym c.are_eight_same.ensures ∙ c.if-are_eight_same.true)
