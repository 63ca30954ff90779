use Rattle.std.proofs.Common.{ap, ◌∙◌}
use Rattle.ssa_path.specs.Trie.{shape}
use Rattle.ssa_turn_set.proofs.SameRecords.{has-room}
use Rattle.ssa_turn_set.proofs.turn.SetDelta.copy.Goals as goal

pub returns-clause-room : goal.returns-clause-room
returns-clause-room c s h =
    has-room c.args.self.now (record {
      gain = c.of_trie.result;
      lose = c.of_trie-2.result;
      room = record { gain = c.in_ok-gain_room.gain_room; lose = c.in_ok-lose_room.lose_room };
    })
    (ap shape c.of_trie.ensures ∙ c.in_ok-gain.ensures ∙ ap shape c.as_trie.ensures)
    (ap shape c.of_trie-2.ensures ∙ c.in_ok-lose.ensures ∙ ap shape c.as_trie-2.ensures) c.in_ok-gain_room.ensures c.in_ok-lose_room.ensures s h
