use Rattle.std.proofs.Common.{arith, sym, ap, ◌∙◌}
use Rattle.std.specs.Int.{to_le_bytes, w32}
use Rattle.ssa_path.proofs.Escapes.{alike-more}
use Rattle.ssa_path.proofs.order.past_four.Goals as goal

pub returns-then-four_at : goal.returns-then-four_at
returns-then-four_at c =
    alike-more c.args.text.now c.args.other.now c.args.i 4 c.requires (omega arith) (omega arith)
    (sym c.four_at.ensures ∙ ap (to_le_bytes w32) c.if-four_at.true ∙ c.four_at-then-other-i-ge4.ensures)
