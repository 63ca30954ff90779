-- A copy of a record says the same and has room wherever the record has.
use Rattle.std.proofs.Common.{◌≡◌, true, ap, ◌∙◌}
use Rattle.ssa_model.specs.definitions.PathMap.{PathSet, listed, minus, paths as set_paths}
use Rattle.ssa_path.specs.Trie.{Shape, is_trie, paths, shape}
use Rattle.ssa_path.proofs.Orders.{both_first, both_second}
use Rattle.ssa_turn_set.specs.Copies.{RoomServes}
use Rattle.ssa_turn_set.specs.Room.{gain_room}
use Rattle.ssa_turn_set.specs.Turn.{HasRoom, holds_room, set_steps}
use Rattle.ssa_turn_set.specs.declared.turn.SetDelta.{SetDelta}
use Rattle.ssa_turn_set.proofs.Twins.{twins-need}
use Rattle.ssa_model.proofs.Basics.{both-true as both}

module _ (d c : SetDelta) (gain : shape c.gain ≡ shape d.gain) (lose : shape c.lose ≡ shape d.lose) where
  -- the copy gains and loses the same paths
  pub same-steps : set_steps c ≡ set_steps d
  same-steps = λ i. record { gain = listed (gain i).0; lose = listed (lose i).0 }

  -- the copy has room for each set that the record has room for
  pub has-room : RoomServes d.room.gain c.room.gain → RoomServes d.room.lose c.room.lose → (s : PathSet) → HasRoom d s → HasRoom c s
  has-room gains loses s h =
      let without = set_paths (minus s (listed (paths d.lose))) in
      let gain_trie : is_trie c.gain ≡ true = ap (λ (x : Shape). x.1) gain ∙ h.gain_trie in
      let lose_trie : is_trie c.lose ≡ true = ap (λ (x : Shape). x.1) lose ∙ h.lose_trie in
      let more = twins-need c.gain d.gain gain_trie h.gain_trie (ap (λ (x : Shape). x.0) gain) in
      let less = twins-need c.lose d.lose lose_trie h.lose_trie (ap (λ (x : Shape). x.0) lose) in
      let own : holds_room c without ≡ true =
      both _ _ (more.gain without c.room.gain ∙ gains.gain d.gain without (both_first _ _ h.room))
      (less.lose without c.room.lose ∙ loses.lose d.lose without (both_second (gain_room d.gain without d.room.gain) _ h.room)) in
      record {
        gain_trie = gain_trie;
        lose_trie = lose_trie;
        room = ap (λ (x : Shape). holds_room c (set_paths (minus s (listed x.0)))) lose ∙ own;
      }
