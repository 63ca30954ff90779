use Rattle.std.proofs.Common.{ap, subst, sym, ◌∙◌}
use Rattle.ssa_model.specs.definitions.PathMap.{listed}
use Rattle.ssa_path.specs.Trie.{paths}
use Rattle.ssa_turn_set.specs.Turn.{HasRoom}
use Rattle.ssa_turn_set.proofs.Turning.{record_of}
use Rattle.ssa_record.proofs.ToldSets.{has-room}
use Rattle.ssa_record.proofs.told_table.set_delta.Goals as goal

pub returns-clause-steps : goal.returns-clause-steps
returns-clause-steps c = λ i. record {
  gain = (ap (λ t. listed (paths t)) c.of_trie.ensures ∙ c.take_root-gained.ensures.same) i;
  lose = (ap (λ t. listed (paths t)) c.of_trie-2.ensures ∙ c.take_root-lost.ensures.same) i;
}

pub returns-clause-room : goal.returns-clause-room
returns-clause-room c =
    let d = record_of c.take_root-gained.result c.take_root-lost.result c.in_ok-gain_room.gain_room c.in_ok-loss.loss.room in
    subst (λ e. HasRoom e c.args.set.now)
    (λ i. record_of (sym c.of_trie.ensures i) (sym c.of_trie-2.ensures i) c.in_ok-gain_room.gain_room c.in_ok-loss.loss.room)
    (has-room d c.args.set.now c.root-own.result.now c.take_root-gained.ensures.trie c.take_root-lost.ensures.trie c.root-own.ensures.same
    c.root-own.ensures.trie c.in_ok-gain_room.ensures c.in_ok-loss.ensures.room)
