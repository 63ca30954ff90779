use Rattle.std.proofs.Common.{ap, sym, zero-add, ◌∙◌, ◌++◌, ◌∷◌, []}
use Rattle.ssa_turn_body.proofs.Exchanging.{range-more}
use Rattle.ssa_turn_body.proofs.exchanges.numbers.Goals as goal

pub loop-i-preserved : goal.loop-i-preserved
loop-i-preserved c = c.in_ok-push.ensures.items ∙ ap (λ xs. xs ++ c.loop-i.i ∷ []) c.loop-i.invariant
    ∙ sym (range-more 0 c.loop-i.i c.loop-i.i (zero-add c.loop-i.i))
