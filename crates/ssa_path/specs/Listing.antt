-- Paths in their order.
use Rattle.std.specs.Prelude.{◌≡◌, List, [], ◌∷◌, ◌++◌, Bool, true, ◌&&◌, map, Vec}
use Rattle.std.specs.Borrow.{Bor}
use Rattle.std.specs.Global.{Global}
use Rattle.std.specs.Ordering.{is_lt}
use Rattle.ssa_model.specs.definitions.Path.{Path, path_cmp}
use Rattle.ssa_path.specs.declared.element.Elem.{Elem}
use Rattle.ssa_path.specs.declared.trie.Trie.{Trie}
use Rattle.ssa_path.specs.Trie.{paths}
use Rattle.ssa_path.specs.View.{element_view}

-- the path of the elements to which these refer
abbrev pub way_view : List (Bor Elem) → Path
way_view = map (λ e. element_view e.now)

abbrev pub ways_view : List (Vec (Bor Elem) Global) → List Path
ways_view = map (λ way. way_view way.items)

-- each path with a beginning in front
abbrev pub behind : Path → List Path → List Path
behind way [] = []
behind way (p ∷ ps) = (way ++ p) ∷ behind way ps

abbrev pub stands_before : Path → List Path → Bool
stands_before p [] = true
stands_before p (q ∷ qs) = is_lt (path_cmp p q) && stands_before p qs

-- each path stands before those after it
abbrev pub paths_rise : List Path → Bool
paths_rise [] = true
paths_rise (p ∷ ps) = stands_before p ps && paths_rise ps

-- the paths of the trie were added behind the way, and they are in path order
pub record IsListed (way : Path) (t : Trie) (old new : List Path) : Type 0 where
  pub added : new ≡ old ++ behind way (paths t)
  pub rise : paths_rise (paths t) ≡ true
