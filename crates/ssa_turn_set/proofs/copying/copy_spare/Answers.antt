use Rattle.std.proofs.Common.{sym, subst}
use Rattle.ssa_turn_set.specs.Copies.{SpareServes}
use Rattle.ssa_turn_set.specs.declared.spare.Spare.TheVariants.{Kept}
use Rattle.ssa_turn_set.proofs.Serving.{kept-serve}
use Rattle.ssa_turn_set.proofs.copying.copy_spare.Goals as goal

pub returns-in_ok-copied-in-Kept : goal.returns-in_ok-copied-in-Kept
returns-in_ok-copied-in-Kept c =
    subst (λ s. SpareServes s (Kept c.in_ok-copied-in-Kept.copied)) (sym c.in-Kept.is)
    (kept-serve c.in-Kept.element c.in_ok-copied-in-Kept.copied c.in_ok-copied-in-Kept.ensures)
