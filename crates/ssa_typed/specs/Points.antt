-- The points of a tree, told by its rows, and what a walk over a tree collects.
use Rattle.std.specs.Prelude.{◌≡◌, List, [], ◌∷◌, Bool, true, false, ◌||◌, ◌&&◌, not, is_some, Option, Some, None}
use Rattle.ssa_model.specs.definitions.Path.{Element, Path, is_item_element, is_item, parent}
use Rattle.ssa_model.specs.definitions.Body.{Content, is_leaf, is_dict, strictly_under}
use Rattle.ssa_path.specs.Children.{child_at, elements, rises}
use Rattle.ssa_path.specs.Trie.{paths, paths_below, is_one_of, is_trie, are_filled_tries}
use Rattle.ssa_path.specs.declared.element.Elem.{Elem}
use Rattle.ssa_path.specs.declared.trie.Trie.{Trie}
use Rattle.ssa_typed.specs.Rows.{Row, rows, content_at, own_content, below}
use Rattle.ssa_typed.specs.declared.node.Node.{Node}
use Rattle.ssa_typed.specs.declared.points.Collected.{Collected}
use Rattle.ssa_typed.specs.declared.points.Collected.TheVariants.{Points, All}

-- something stands strictly below a path
abbrev pub stands_below : List Row → Path → Bool
stands_below [] p = false
stands_below (r ∷ rs) p = strictly_under p r.0 || stands_below rs p

abbrev pub is_point_by : Option Content → Bool → Bool → Bool → Bool
is_point_by c item in_dict stands = is_some c && (is_leaf c || (item || (in_dict || not stands)))

-- a path of the rows that is a point
abbrev pub is_point_of : List Row → Path → Bool
is_point_of rs [] = false
is_point_of rs (e ∷ p) = is_point_by (content_at rs (e ∷ p)) (is_item (e ∷ p)) (is_dict (content_at rs (parent (e ∷ p)))) (stands_below rs (e ∷ p))

-- ---- what is found in a child, if there is one

abbrev pub content_in : Option Node → Path → Option Content
content_in None p = None
content_in (Some c) p = content_at (rows c) p

abbrev pub stands_in : Option Node → Path → Bool
stands_in None p = false
stands_in (Some c) p = stands_below (rows c) p

-- the path is a point at or below the child of the element, which is an entry of a Dict or not
abbrev pub point_in : Bool → Element → Option Node → Path → Bool
point_in in_dict e c [] = is_point_by (content_in c []) (is_item_element e) in_dict (stands_in c [])
point_in in_dict e c (f ∷ p) = is_point_by (content_in c (f ∷ p)) (is_item (f ∷ p)) (is_dict (content_in c (parent (f ∷ p)))) (stands_in c (f ∷ p))

-- ---- what a walk collects

abbrev pub collects : Collected → Bool → Element → Option Node → Path → Bool
collects Points in_dict e c p = point_in in_dict e c p
collects All in_dict e c p = is_some (content_in c p)

-- nothing of nothing
abbrev pub collects_of : Option Collected → Bool → Element → Option Node → Path → Bool
collects_of None in_dict e c p = false
collects_of (Some what) in_dict e c p = collects what in_dict e c p

abbrev pub is_in_dict : Node → Bool
is_in_dict n = is_dict (Some (own_content n))

-- tries that hold what is collected below a node
pub record IsCollected (what : Collected) (n : Node) (ts : List (Elem × Trie)) : Type 0 where
  pub paths_are : (e : Element) (p : Path) → is_one_of (paths_below ts) (e ∷ p) ≡ collects what (is_in_dict n) e (child_at e (below n)) p
  pub risen : rises (elements ts) ≡ true
  pub tries : are_filled_tries ts ≡ true

-- the trie of what is collected at and below a child
pub record IsChildTrie (what : Option Collected) (in_dict : Bool) (e : Element) (c : Node) (t : Trie) : Type 0 where
  pub paths_are : (p : Path) → is_one_of (paths t) p ≡ collects_of what in_dict e (Some c) p
  pub trie : is_trie t ≡ true

-- the trie of all places of a tree
pub record IsAllPlaces (n : Node) (t : Trie) : Type 0 where
  pub paths_are : (p : Path) → is_one_of (paths t) p ≡ is_some (content_at (rows n) p)
  pub trie : is_trie t ≡ true

-- the trie of the points of a tree
pub record IsPointTrie (n : Node) (t : Trie) : Type 0 where
  pub paths_are : (p : Path) → is_one_of (paths t) p ≡ is_point_of (rows n) p
  pub trie : is_trie t ≡ true

abbrev pub has_none : {A : Type 0} → List A → Bool
has_none [] = true
has_none (x ∷ xs) = false

-- a leaf, or a branch with nothing below
abbrev pub ends_here : Node → Bool
ends_here n = is_leaf (Some (own_content n)) || has_none {A = Elem × Node} (below n)
