use Rattle.std.proofs.Common.{ap, sym, ◌∙◌, ◌++◌, ◌∷◌, [], None}
use Rattle.ssa_turn_body.proofs.Matching.{nothing-more}
use Rattle.ssa_turn_body.proofs.found.nothing_told.Goals as goal

pub loop-i-preserved : goal.loop-i-preserved
loop-i-preserved c = c.in_ok-push.ensures.items ∙ ap (λ xs. xs ++ None ∷ []) c.loop-i.invariant ∙ sym (nothing-more c.loop-i._i)
