use Rattle.std.proofs.Common.{not, ap, sym, subst, ◌∙◌}
use Rattle.ssa_model.specs.definitions.Body.{restricted}
use Rattle.ssa_model.specs.definitions.PathMap.{has}
use Rattle.ssa_model.specs.definitions.Valid.{IsRooted}
use Rattle.ssa_merge.proofs.AppliedParts.{all-goes}
use Rattle.ssa_merge.proofs.body_change.laid_over.Goals as goal

pub without-requires-clause-whole : goal.without-requires-clause-whole
without-requires-clause-whole c = λ p q goes u there.
    all-goes c.args.live.now c.args.config c.args.gone.now c.requires.gone c.points_tell_places.ensures p q goes u
    (sym (ap (λ b. has b q) c.in_ok-merged.ensures) ∙ there)

pub without-requires-clause-rooted : goal.without-requires-clause-rooted
without-requires-clause-rooted c = subst (λ b. IsRooted (restricted b (λ p. not (has c.args.gone.now p)))) (sym c.in_ok-merged.ensures) c.requires.rooted
