-- Sets with nothing below their place, and the room that they need: none.
use Rattle.std.proofs.Common.{◌≡◌, ◌+◌, List, [], ◌++◌, length, true, false, not, ◌&&◌, ap, sym, ◌∙◌}
use Rattle.std.specs.Prelude.{nat_le}
use Rattle.ssa_model.specs.definitions.FieldsV1.{heads}
use Rattle.ssa_model.specs.definitions.Path.{Path}
use Rattle.ssa_path.specs.declared.element.Elem.{Elem}
use Rattle.ssa_path.specs.declared.trie.Trie.{Trie}
use Rattle.ssa_path.specs.declared.trie.Trie.TheOpen.{Trie-F}
use Rattle.ssa_path.specs.declared.trie.Trie.TheViews.{roll-Trie, out-roll-Trie}
use Rattle.ssa_path.specs.Children.{elements, rises}
use Rattle.ssa_path.specs.Trie.{are_filled_tries, has_some, here_path, is_trie, paths, paths_below}
use Rattle.ssa_path.proofs.Levels.{is_trie-made, paths-made}
use Rattle.ssa_path.proofs.Orders.{both_second}
use Rattle.ssa_turn_set.specs.declared.room.Room.TheVariants.{Nothing}
use Rattle.ssa_turn_set.specs.declared.room.Room.TheViews.{out-Room}
use Rattle.ssa_turn_set.specs.Room.{children, freshes, gain_room, gains, has_place, holds, if_any, lose_room, loses, own_children, rooms_of, width}
use Rattle.ssa_turn_set.proofs.Places.{nothing-left}
use Rattle.ssa_turn_set.proofs.Rooms.{gain_room-level, gains-some, lose_room-level, loses-some, nothing-out}

-- a place with nothing at or below it
pub record IsBare (x : Trie-F Trie) : Type 0 where
  -- the place itself is not in the set
  pub here : x.here ≡ false
  -- there is no child below it
  pub below : x.below.items ≡ []

-- a bare place has no path
pub bare-paths : (x : Trie-F Trie) → IsBare x → paths (roll-Trie x) ≡ []
bare-paths x h = paths-made x ∙ (λ i. here_path (h.here i) ++ paths_below (h.below i))

-- a bare place is a trie
pub bare-trie : (x : Trie-F Trie) → IsBare x → is_trie (roll-Trie x) ≡ true
bare-trie x h = is_trie-made x (ap (λ cs. rises (elements cs)) h.below) (ap are_filled_tries h.below)

-- ---- a place below which there is no path

module _ (t : Trie) (leaf : children t ≡ []) (ps : List Path) where
  -- to put it in, no room is needed
  pub leaf-gain : gain_room t ps Nothing ≡ true
  leaf-gain =
      gain_room-level t ps Nothing
      ∙ (λ i. (not (has_some {A = Elem × Trie} (own_children (nothing-out i)))
      && if_any (freshes (leaf i) ps) (has_place (nothing-out i) && nat_le (length (heads ps) + freshes (leaf i) ps) (width (nothing-out i)))) && gains (leaf i) ps (rooms_of (nothing-out i)))

  -- to take it out, no room is needed
  pub leaf-lose : lose_room t ps Nothing ≡ true
  leaf-lose =
      lose_room-level t ps Nothing
      ∙ (λ i. (not (has_some {A = Elem × Trie} (own_children (nothing-out i)))
      && if_any (freshes (leaf i) ps) (has_place (nothing-out i) && nat_le (length (heads ps)) (width (nothing-out i)))) && loses (leaf i) ps (rooms_of (nothing-out i)))

-- what needs no room to be put in has nothing below it
pub gain-leaf : (t : Trie) (ps : List Path) → gain_room t ps Nothing ≡ true → children t ≡ []
gain-leaf t ps h =
    nothing-left (children t) (gains-some (children t) ps (rooms_of (out-Room Nothing))
    (both_second (holds (freshes (children t) ps) (length (heads ps) + freshes (children t) ps) Nothing) _ (sym (gain_room-level t ps Nothing) ∙ h))
    ∙ ap (λ x. length (rooms_of x)) nothing-out)

-- what needs no room to be taken out has nothing below it
pub lose-leaf : (t : Trie) (ps : List Path) → lose_room t ps Nothing ≡ true → children t ≡ []
lose-leaf t ps h =
    nothing-left (children t) (loses-some (children t) ps (rooms_of (out-Room Nothing))
    (both_second (holds (freshes (children t) ps) (length (heads ps)) Nothing) _ (sym (lose_room-level t ps Nothing) ∙ h))
    ∙ ap (λ x. length (rooms_of x)) nothing-out)

module _ (x : Trie-F Trie) (bare : IsBare x) (ps : List Path) where
  no-child : children (roll-Trie x) ≡ []
  no-child = ap (λ y. y.below.items) (out-roll-Trie x) ∙ bare.below

  -- to put a bare place in, no room is needed
  pub bare-gain : gain_room (roll-Trie x) ps Nothing ≡ true
  bare-gain = leaf-gain (roll-Trie x) no-child ps

  -- to take a bare place out, no room is needed
  pub bare-lose : lose_room (roll-Trie x) ps Nothing ≡ true
  bare-lose = leaf-lose (roll-Trie x) no-child ps
