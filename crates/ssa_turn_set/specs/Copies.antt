-- Room that serves wherever other room does.
use Rattle.std.specs.Prelude.{◌≡◌, List, true}
use Rattle.ssa_model.specs.definitions.Path.{Element, Path}
use Rattle.ssa_path.specs.declared.trie.Trie.{Trie}
use Rattle.ssa_turn_set.specs.Room.{gain_room, lose_room}
use Rattle.ssa_turn_set.specs.Spare.{fits, is_nothing}
use Rattle.ssa_turn_set.specs.declared.room.Room.{Room}
use Rattle.ssa_turn_set.specs.declared.spare.Spare.{Spare}

pub record SpareServes (s c : Spare) : Type 0 where
  pub nothing : is_nothing s ≡ true → is_nothing c ≡ true
  pub fits : (e : Element) → fits e s ≡ true → fits e c ≡ true

-- for each set that is put in or taken out, whatever stands there
pub record RoomServes (s c : Room) : Type 0 where
  pub gain : (t : Trie) (ps : List Path) → gain_room t ps s ≡ true → gain_room t ps c ≡ true
  pub lose : (t : Trie) (ps : List Path) → lose_room t ps s ≡ true → lose_room t ps c ≡ true

-- both parts of a child's room
abbrev pub ChildServes : Spare × Room → Spare × Room → Type 0
ChildServes s c = SpareServes s.0 c.0 × RoomServes s.1 c.1
