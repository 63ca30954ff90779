-- A set of one child alone taken out of another: its child is found among all, and goes from there where it has no path left.
use Rattle.std.proofs.Common.{◌≡◌, ℕ, ◌+◌, ◌<◌, List, [], ◌∷◌, ◌++◌, length, get_or, set, drop, take, Bool, true, false, not, ◌&&◌, None, refl, sym, ◌∙◌, arith, subst}
use Rattle.ssa_model.specs.definitions.Path.{Path, same_element}
use Rattle.ssa_path.specs.declared.element.Elem.{Elem}
use Rattle.ssa_path.specs.declared.trie.Trie.{Trie}
use Rattle.ssa_path.specs.Children.{child_at, elements, rises, IsChildAt}
use Rattle.ssa_path.specs.View.{element_view}
use Rattle.ssa_path.specs.Trie.{kept, is_one_of, paths_below, paths, is_trie, is_filled, are_filled_tries}
use Rattle.ssa_path.proofs.Lists.{left-at}
use Rattle.ssa_turn_set.specs.declared.room.Room.{Room}
use Rattle.ssa_turn_set.specs.declared.spare.Spare.{Spare}
use Rattle.ssa_turn_set.specs.Room.{gain_one, lose_one, loses}
use Rattle.ssa_turn_set.specs.Siblings.{AreTaken}
use Rattle.ssa_path.proofs.Kept.{has-any-is, kept-all}
use Rattle.ssa_turn_set.proofs.Losing.{losing-all, losing-within}
use Rattle.ssa_turn_set.proofs.Passing.{IsPassing, kept-without, next-present, passed-child, passing-at, passing-more, passing-next, passing-none}
use Rattle.ssa_turn_set.proofs.Places.{left-set}

module _ (cs ds : List (Elem × Trie)) (rs : List (Spare × Room)) (ps : List Path) (one : length ds ≡ 1) (rise : rises (elements cs) ≡ true)
    (tries : are_filled_tries cs ≡ true) (lost_rise : rises (elements ds) ≡ true) (lost_tries : are_filled_tries ds ≡ true)
    (within : (p : Path) → is_one_of (paths_below ds) p ≡ true → is_one_of (paths_below cs) p ≡ true) (form : loses ds ps rs ≡ true)
    (d : Elem × Trie) (is : d ≡ get_or ds 0 d) where
  start : IsPassing cs [] ds [] [] rs cs 0 false
  start = passing-none cs ds rs ps rise tries lost_rise lost_tries within form

  some : 0 < length ds
  some = omega arith

  passing : IsPassing cs [] (d ∷ drop 1 ds) [] [] rs cs 0 false
  passing = passing-at cs ds [] [] rs cs 0 false 0 d some is start

  room : 0 < length rs
  room = losing-within cs ds rs [] (kept cs) 0 some start.losing

  -- its child stands among all
  pub lone-present : child_at (element_view d.0) cs ≡ None → ⊥
  lone-present = next-present cs rise tries [] (drop 1 ds) [] [] rs cs 0 false d passing

  module _ (place : ℕ) (c : Elem × Trie) (at : IsChildAt (element_view d.0) cs place) (here : c ≡ get_or cs place c)
      (r : Spare × Room) (own : r ≡ get_or rs 0 r) where
    -- what is asked where its paths are to be taken out
    pub lone-child : (same_element (element_view d.0) (element_view c.0) ≡ true) × (is_trie c.1 ≡ true) × (is_trie d.1 ≡ true)
        × ((p : Path) → is_one_of (paths d.1) p ≡ true → is_one_of (paths c.1) p ≡ true)
        × ((qs : List Path) × (lose_one d qs r ≡ true))
    lone-child = passed-child cs rise tries [] (drop 1 ds) [] [] rs cs 0 false d passing place c (omega arith) at here (drop 1 rs) r (left-at rs 0 r room own)

    module _ (s : Spare × Room) (m : Elem × Trie) (bare : Bool)
        (made : (p : Path) → is_one_of (paths m.1) p ≡ (is_one_of (paths c.1) p && not (is_one_of (paths d.1) p))) (trie : is_trie m.1 ≡ true)
        (told : bare ≡ not (is_filled m.1)) (element : is_filled m.1 ≡ true → m.0 ≡ c.0)
        (back : lose_one d (paths m.1) r ≡ true → gain_one d (paths m.1) s ≡ true) where
      after : IsPassing cs (take 1 ds) (drop 1 ds) (take 1 rs) (take 1 (set rs 0 s)) (drop 1 rs) (set cs place m) (place + 1) bare
      after = passing-next cs ds rs rs (set cs place m) (place + 1) bare 0 d r s some is room own room
          (passing-more cs rise tries [] (drop 1 ds) [] [] rs cs 0 false d passing place c (omega arith) at here
          (drop 1 rs) r s (left-at rs 0 r room own) m bare made trie told element back bare refl)

      lone-taken : AreTaken ds cs rs (kept (set cs place m)) (set rs 0 s)
      lone-taken = losing-all cs ds rs (set rs 0 s) (kept (set cs place m)) 1 (omega arith) (left-set rs 0 s) after.losing

      -- with a child that has some path left, all stay
      pub lone-stays : bare ≡ false → AreTaken ds cs rs (set cs place m) (set rs 0 s)
      lone-stays none = subst (λ l. AreTaken ds cs rs l (set rs 0 s)) (kept-all (set cs place m) (after.all_filled none)) lone-taken

      -- a child that has none goes
      pub lone-goes : is_filled m.1 ≡ false → AreTaken ds cs rs (take place (set cs place m) ++ drop (place + 1) (set cs place m)) (set rs 0 s)
      lone-goes none =
          subst (λ l. AreTaken ds cs rs l (set rs 0 s)) (sym (kept-without cs place c m at.within here tries (has-any-is m trie ∙ none))) lone-taken
