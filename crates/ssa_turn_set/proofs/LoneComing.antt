-- A set of one child put into another.
use Rattle.std.proofs.Common.{◌≡◌, ℕ, ◌+◌, ◌<◌, ◌≤◌, List, [], ◌∷◌, length, get_or, set, drop, take, true, ◌||◌, refl, sym, arith, subst}
use Rattle.ssa_model.specs.definitions.FieldsV1.{tails}
use Rattle.ssa_model.specs.definitions.Path.{Path}
use Rattle.ssa_path.specs.declared.element.Elem.{Elem}
use Rattle.ssa_path.specs.declared.trie.Trie.{Trie}
use Rattle.ssa_path.specs.Children.{elements, rises}
use Rattle.ssa_path.specs.View.{element_view}
use Rattle.ssa_path.specs.Trie.{is_one_of, paths_below, paths, is_trie, are_filled_tries}
use Rattle.ssa_path.proofs.Lists.{parted-set}
use Rattle.ssa_path.proofs.Orders.{both_second}
use Rattle.ssa_turn_set.specs.declared.room.Room.{Room}
use Rattle.ssa_turn_set.specs.declared.spare.Spare.{Spare}
use Rattle.ssa_turn_set.specs.Room.{children, freshes, gain_one, gains, lone_room, lone_rooms, lose_room, loses}
use Rattle.ssa_turn_set.specs.Spare.{is_nothing}
use Rattle.ssa_turn_set.specs.Weaving.{AreGathered, IsOpened}
use Rattle.ssa_turn_set.proofs.Bare.{gain-leaf}
use Rattle.ssa_turn_set.proofs.Coming.{opened-more}
use Rattle.ssa_turn_set.proofs.Gaining.{IsGaining, gaining-all, gaining-at, gaining-fits, gaining-next, gaining-none}
use Rattle.ssa_turn_set.proofs.Rooms.{gains-some}

module _ (cs ds : List (Elem × Trie)) (r : Spare × Room) (capacity : ℕ) (rise : rises (elements cs) ≡ true) (tries : are_filled_tries cs ≡ true)
    (gained_rise : rises (elements ds) ≡ true) (gained_tries : are_filled_tries ds ≡ true)
    (fits : length cs + freshes ds (paths_below cs) ≤ capacity) (room : gains ds (paths_below cs) (r ∷ []) ≡ true)
    (d : Elem × Trie) (is : d ≡ get_or ds 0 d) where
  one : length ds ≡ 1
  one = gains-some ds (paths_below cs) (r ∷ []) room

  start : IsGaining cs [] (d ∷ drop 1 ds) [] (r ∷ []) cs capacity
  start = let long = one in gaining-at cs ds (r ∷ []) cs capacity 0 d r (omega arith) is (omega arith) refl
      (gaining-none cs ds (r ∷ []) cs capacity refl rise tries gained_rise gained_tries fits room)

  -- its room is enough for it
  pub lone-fits : gain_one d (tails (element_view d.0) (paths_below cs)) r ≡ true
  lone-fits = (gaining-fits cs [] (drop 1 ds) [] [] cs capacity d r start).1

  module _ (now : List (Elem × Trie)) (place longer : ℕ) (c : Elem × Trie) (o : IsOpened (element_view d.0) cs (take place now) c (drop (place + 1) now))
      (lt : place < length now) (m : Trie) (left : Spare × Room)
      (made : (p : Path) → is_one_of (paths m) p ≡ (is_one_of (paths d.1) p || is_one_of (paths c.1) p)) (trie : is_trie m ≡ true)
      (nothing : is_nothing left.0 ≡ true) (back : lose_room d.1 (paths c.1) left.1 ≡ true) (wider : capacity ≤ longer) where
    after : IsGaining cs (take 1 ds) (drop 1 ds) (take 1 (left ∷ [])) (drop 1 (left ∷ [])) (set now place (c.0, m)) longer
    after =
        let long = one in
        gaining-next cs ds (r ∷ []) (set now place (c.0, m)) longer 0 d left (omega arith) is (omega arith)
        (subst (λ l. IsGaining cs (d ∷ []) (drop 1 ds) (left ∷ []) [] l longer) (sym (parted-set now place (c.0, m) lt))
        (opened-more cs [] (drop 1 ds) [] [] cs capacity d r start (take place now) c (drop (place + 1) now) o m left longer
        made trie nothing back wider))

    all : ((p : Path) → is_one_of (paths_below (set now place (c.0, m))) p ≡ (is_one_of (paths_below ds) p || is_one_of (paths_below cs) p))
        × (loses ds (paths_below cs) (left ∷ []) ≡ true)
    all = let long = one in gaining-all cs ds (left ∷ []) (set now place (c.0, m)) longer 1 (omega arith) after

    -- the children have the gained paths as well
    pub lone-gathered : AreGathered ds cs (set now place (c.0, m))
    lone-gathered = record { paths_are = all.0; risen = after.risen; tries = after.tries }

    -- and the room that is left is enough to take them out again
    pub lone-back : loses ds (paths_below cs) (left ∷ []) ≡ true
    lone-back = all.1

-- below one that has no room there is nothing
pub lone-leaf : (cs ds : List (Elem × Trie)) (s : Spare) (capacity : ℕ) → rises (elements cs) ≡ true → are_filled_tries cs ≡ true
    → rises (elements ds) ≡ true → are_filled_tries ds ≡ true → length cs + freshes ds (paths_below cs) ≤ capacity
    → gains ds (paths_below cs) (lone_rooms s) ≡ true → (d : Elem × Trie) → d ≡ get_or ds 0 d → children d.1 ≡ []
lone-leaf cs ds s capacity rise tries gained_rise gained_tries fits room d is =
    gain-leaf d.1 _ (both_second _ _ (lone-fits cs ds (lone_room s) capacity rise tries gained_rise gained_tries fits room d is))
