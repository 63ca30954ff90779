-- What a tree lacks of the paths of a trie.
use Rattle.std.specs.Prelude.{◌≡◌, List, ◌∷◌, true, not, ◌&&◌, is_some}
use Rattle.ssa_model.specs.definitions.Path.{Element, Path}
use Rattle.ssa_path.specs.Children.{elements, rises}
use Rattle.ssa_path.specs.Trie.{paths, paths_below, is_one_of, is_trie, are_filled_tries}
use Rattle.ssa_path.specs.declared.element.Elem.{Elem}
use Rattle.ssa_path.specs.declared.trie.Trie.{Trie}
use Rattle.ssa_typed.specs.Rows.{rows, content_at}
use Rattle.ssa_typed.specs.declared.node.Node.{Node}

-- tries that hold the paths of the set at which nothing stands below the node
pub record AreLacking (n : Node) (set ts : List (Elem × Trie)) : Type 0 where
  pub paths_are : (e : Element) (p : Path) → is_one_of (paths_below ts) (e ∷ p)
      ≡ (is_one_of (paths_below set) (e ∷ p) && not (is_some (content_at (rows n) (e ∷ p))))
  pub risen : rises (elements ts) ≡ true
  pub tries : are_filled_tries ts ≡ true

-- the trie of the paths of the set at which nothing stands in the tree
pub record IsLacking (n : Node) (set t : Trie) : Type 0 where
  pub paths_are : (p : Path) → is_one_of (paths t) p ≡ (is_one_of (paths set) p && not (is_some (content_at (rows n) p)))
  pub trie : is_trie t ≡ true
