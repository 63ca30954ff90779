use Rattle.std.proofs.Common.{arith, sym, ap, ◌∙◌}
use Rattle.std.specs.Int.{to_le_bytes, w64}
use Rattle.ssa_path.proofs.Escapes.{alike-more}
use Rattle.ssa_path.proofs.order.alike_in_eights.Goals as goal

pub loop-i-preserved : goal.loop-i-preserved
loop-i-preserved c =
    alike-more c.args.text.now c.args.other.now c.loop-i.i 8 c.loop-i.invariant (omega arith) (omega arith)
    (sym c.eight_at.ensures ∙ ap (to_le_bytes w64) c.if-eight_at.true ∙ c.eight_at-then-other-i-ge8.ensures)
