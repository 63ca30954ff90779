use Rattle.ssa_turn_set.proofs.LossRecords.{loss-between, loss-sets}
use Rattle.ssa_turn_set.proofs.turn.SetDelta.of_loss.Goals as goal

pub returns : goal.returns
returns c =
    loss-sets c.root-own.result.now c.into_root.result.value _ _ _ c.root-own.ensures.same c.into_root.ensures.same
    (loss-between c.root-own.result.now c.into_root.result.value _ c.root-own.ensures.trie c.nothing-gain.ensures.paths c.nothing-gain.ensures.trie
    c.in_ok-lose.ensures.lost c.nothing-gain.ensures.room c.in_ok-lose.ensures.room)
