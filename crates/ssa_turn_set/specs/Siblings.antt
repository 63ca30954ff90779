-- The children of a place, of which some have no path left.
use Rattle.std.specs.Prelude.{◌≡◌, ◌+◌, List, length, true, not, ◌&&◌}
use Rattle.ssa_model.specs.definitions.Path.{Path}
use Rattle.ssa_path.specs.Children.{elements, rises}
use Rattle.ssa_path.specs.Trie.{are_filled_tries, is_one_of, paths_below}
use Rattle.ssa_path.specs.declared.element.Elem.{Elem}
use Rattle.ssa_path.specs.declared.trie.Trie.{Trie}
use Rattle.ssa_turn_set.specs.declared.room.Room.{Room}
use Rattle.ssa_turn_set.specs.declared.spare.Spare.{Spare}
use Rattle.ssa_turn_set.specs.Room.{freshes, gains, loses}

-- the children ds have the paths of cs without those of the lost ones; room that was enough for this is enough to put them in again
pub record AreTaken (lost cs : List (Elem × Trie)) (old : List (Spare × Room)) (ds : List (Elem × Trie)) (left : List (Spare × Room)) : Type 0 where
  pub paths_are : (p : Path) → is_one_of (paths_below ds) p ≡ (is_one_of (paths_below cs) p && not (is_one_of (paths_below lost) p))
  pub risen : rises (elements ds) ≡ true
  pub tries : are_filled_tries ds ≡ true
  -- those that stand there and those that went are as many as there were
  pub len : length ds + freshes lost (paths_below ds) ≡ length cs
  pub room : loses lost (paths_below ds) old ≡ true → gains lost (paths_below ds) left ≡ true
