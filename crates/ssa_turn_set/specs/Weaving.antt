-- Children that come among those of a place, one after the other.
use Rattle.std.specs.Prelude.{◌≡◌, ℕ, ◌+◌, ◌<◌, List, [], ◌∷◌, ◌++◌, length, take, drop, Bool, true, false, ◌||◌}
use Rattle.std.specs.List.{slice_index_or}
use Rattle.std.specs.Ordering.{is_lt}
use Rattle.ssa_model.specs.definitions.Path.{Element, Path, element_cmp, same_element}
use Rattle.ssa_path.specs.Children.{elements, rises}
use Rattle.ssa_path.specs.Trie.{are_filled_tries, is_one_of, is_trie, paths, paths_below}
use Rattle.ssa_path.specs.View.{element_view}
use Rattle.ssa_path.specs.declared.element.Elem.{Elem}
use Rattle.ssa_path.specs.declared.trie.Trie.{Trie}
use Rattle.ssa_turn_set.specs.Room.{fresh}

-- whether the first of the children is before this element
abbrev pub starts_before : Element → List (Elem × Trie) → Bool
starts_before e [] = false
starts_before e (c ∷ cs) = is_lt (element_cmp (element_view c.0) e)

-- whether the first of the children is this element's
abbrev pub starts_with : Element → List (Elem × Trie) → Bool
starts_with e [] = false
starts_with e (c ∷ cs) = same_element e (element_view c.0)

-- The element's child and the children before and behind it are the old ones, or the child has come without a path.
pub record IsOpened (e : Element) (old front : List (Elem × Trie)) (child : Elem × Trie) (behind : List (Elem × Trie)) : Type 0 where
  pub element : element_view child.0 ≡ e
  pub trie : is_trie child.1 ≡ true
  pub paths_same : paths_below (front ++ child ∷ behind) ≡ paths_below old
  pub risen : rises (elements (front ++ child ∷ behind)) ≡ true
  pub others : are_filled_tries (front ++ behind) ≡ true
  pub len : length (front ++ child ∷ behind) ≡ length old + fresh (paths child.1)

-- the child at this place is opened among those before and behind it
pub record IsOpenedAt (e : Element) (old new : List (Elem × Trie)) (place : ℕ) : Type 0 where
  pub within : place < length new
  pub opened : (c : Elem × Trie) → c ≡ slice_index_or new place c → IsOpened e old (take place new) c (drop (place + 1) new)

-- the children ds have the paths of cs and those of the gained children
pub record AreGathered (gained cs ds : List (Elem × Trie)) : Type 0 where
  pub paths_are : (p : Path) → is_one_of (paths_below ds) p ≡ (is_one_of (paths_below gained) p || is_one_of (paths_below cs) p)
  pub risen : rises (elements ds) ≡ true
  pub tries : are_filled_tries ds ≡ true
