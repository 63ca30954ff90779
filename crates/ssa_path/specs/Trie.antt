-- The paths that a trie holds.
use Rattle.std.specs.Prelude.{◌≡◌, List, [], ◌∷◌, ◌++◌, map, Bool, true, false, not, ◌&&◌, ◌||◌}
use Rattle.std.specs.List.{filter, list_any}
use Rattle.ssa_model.specs.definitions.Path.{Element, Path, same_path, under}
use Rattle.ssa_path.specs.Children.{elements, rises}
use Rattle.ssa_path.specs.View.{element_view}
use Rattle.ssa_path.specs.declared.element.Elem.{Elem}
use Rattle.ssa_path.specs.declared.trie.Trie.{Trie}
use Rattle.ssa_path.specs.declared.trie.Trie.TheOpen.{Trie-F}
use Rattle.ssa_path.specs.declared.trie.Trie.TheFolds.{fold-Trie}
use Rattle.ssa_path.specs.declared.trie.Trie.TheViews.{out-Trie}

abbrev pub here_path : Bool → List Path
here_path true = [] ∷ []
here_path false = []

-- each path with an element in front
abbrev pub paths_after : Element → List Path → List Path
paths_after e [] = []
paths_after e (p ∷ ps) = (e ∷ p) ∷ paths_after e ps

abbrev pub has_some : {A : Type 0} → List A → Bool
has_some [] = false
has_some (x ∷ xs) = true

-- the paths that a tree of places holds, and whether it is a trie: the children rise, and each is a trie with some path
abbrev pub Shape : Type 0
Shape = List Path × Bool

abbrev pub paths_under : List (Elem × Shape) → List Path
paths_under [] = []
paths_under (c ∷ cs) = paths_after (element_view c.0) c.1.0 ++ paths_under cs

abbrev pub all_filled : List (Elem × Shape) → Bool
all_filled [] = true
all_filled (c ∷ cs) = (c.1.1 && has_some c.1.0) && all_filled cs

abbrev pub shape_step : Trie-F Shape → Shape
shape_step x = (here_path x.here ++ paths_under x.below.items, rises (elements x.below.items) && all_filled x.below.items)

abbrev pub shape : Trie → Shape
shape = fold-Trie Shape shape_step

-- in path order where it is a trie
abbrev pub paths : Trie → List Path
paths t = (shape t).0

abbrev pub is_trie : Trie → Bool
is_trie t = (shape t).1

abbrev pub is_filled : Trie → Bool
is_filled t = has_some (paths t)

abbrev pub paths_below : List (Elem × Trie) → List Path
paths_below cs = paths_under (map (λ c. (c.0, shape c.1)) cs)

abbrev pub are_filled_tries : List (Elem × Trie) → Bool
are_filled_tries cs = all_filled (map (λ c. (c.0, shape c.1)) cs)

-- whether the child has some path, told of its parts
abbrev pub has_any : Elem × Trie → Bool
has_any c = (out-Trie c.1).here || has_some {A = Elem × Trie} (out-Trie c.1).below.items

-- the children that have some path
abbrev pub kept : List (Elem × Trie) → List (Elem × Trie)
kept = filter has_any

-- whether a path is one of these
abbrev pub is_one_of : List Path → Path → Bool
is_one_of ps p = list_any (same_path p) ps

-- each of the paths is one of the others
abbrev pub IsWithin : List Path → List Path → Type 0
IsWithin ps qs = (p : Path) → is_one_of ps p ≡ true → is_one_of qs p ≡ true

-- some of the paths is none of the others
abbrev pub Exceeds : List Path → List Path → Type 0
Exceeds ps qs = (p : Path) × (is_one_of ps p ≡ true) × (is_one_of qs p ≡ false)

-- some of the paths is one of the others
abbrev pub Meet : List Path → List Path → Type 0
Meet ps qs = (p : Path) × (is_one_of ps p ≡ true) × (is_one_of qs p ≡ true)

-- none of the paths is one of the others
abbrev pub AreApart : List Path → List Path → Type 0
AreApart ps qs = (p : Path) → is_one_of ps p ≡ true → is_one_of qs p ≡ false

-- ---- what functions over tries give

-- a child under the same element with the same paths
pub record IsCopy (c d : Elem × Trie) : Type 0 where
  pub element : element_view d.0 ≡ element_view c.0
  pub shape_is : shape d.1 ≡ shape c.1

-- the trie of one path
pub record IsOnly (path : Path) (t : Trie) : Type 0 where
  pub paths_are : (p : Path) → is_one_of (paths t) p ≡ same_path p path
  pub trie : is_trie t ≡ true
  pub filled : is_filled t ≡ true

-- the trie with one path more
pub record IsInserted (old : Trie) (path : Path) (new : Trie) : Type 0 where
  pub paths_are : (p : Path) → is_one_of (paths new) p ≡ (same_path p path || is_one_of (paths old) p)
  pub trie : is_trie new ≡ true
  pub filled : is_filled new ≡ true

-- the trie without a path
pub record IsRemoved (old : Trie) (path : Path) (new : Trie) : Type 0 where
  pub paths_are : (p : Path) → is_one_of (paths new) p ≡ (is_one_of (paths old) p && not (same_path p path))
  pub trie : is_trie new ≡ true

-- the children have the paths that they had, and those of one more child
pub record IsGathered (cs : List (Elem × Trie)) (e : Element) (t : Trie) (ds : List (Elem × Trie)) : Type 0 where
  pub paths_are : (p : Path) → is_one_of (paths_below ds) p ≡ (is_one_of (paths_after e (paths t)) p || is_one_of (paths_below cs) p)
  pub risen : rises (elements ds) ≡ true
  pub tries : are_filled_tries ds ≡ true

-- the place of a path: the paths that begin with it are those of the place
pub record IsPlace (start : Trie) (path : Path) (t : Trie) : Type 0 where
  pub trie : is_trie t ≡ true
  pub same : is_one_of (paths start) path ≡ is_one_of (paths t) []
  pub alike : list_any (under path) (paths start) ≡ is_filled t
