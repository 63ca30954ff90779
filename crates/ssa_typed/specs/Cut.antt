-- The part of a body that stays where places go.
use Rattle.std.specs.Prelude.{◌≡◌, List, [], ◌∷◌, Bool, true, not, ◌&&◌, ◌||◌, Option, Some, None}
use Rattle.std.specs.List.{list_any}
use Rattle.ssa_model.specs.definitions.Body.{Body, points}
use Rattle.ssa_model.specs.definitions.Path.{Element, Path, under}
use Rattle.ssa_model.specs.definitions.PathMap.{PathSet, has_at_or_above, set_of, union}
use Rattle.ssa_model.specs.definitions.PathMap.{paths as set_paths}
use Rattle.ssa_path.specs.Children.{child_at}
use Rattle.ssa_path.specs.Trie.{is_filled, is_one_of, is_trie, paths}
use Rattle.ssa_path.specs.declared.element.Elem.{Elem}
use Rattle.ssa_path.specs.declared.trie.Trie.{Trie}
use Rattle.ssa_typed.specs.Points.{content_in, is_point_of, point_in}
use Rattle.ssa_typed.specs.Restricted.{part_at}
use Rattle.ssa_typed.specs.Rows.{content_at, is_tree, rows}
use Rattle.ssa_typed.specs.declared.node.Node.{Node}

-- the points of a body that are not at or below a path of `gone`, and the paths of `held`
abbrev pub uncut : Body → PathSet → PathSet → PathSet
uncut b gone held = union (set_of (set_paths (points b)) (λ p. not (has_at_or_above gone p))) held

-- ---- the paths that stay by themselves

-- the path is at or below one of these
abbrev pub goes : List Path → Path → Bool
goes gone p = list_any (λ g. under g p) gone

-- a point that does not go, or a path that is held
abbrev pub stays_by : Bool → Bool → Bool → Bool
stays_by point gone held = (point && not gone) || held

-- these paths, as far as they are below a node with these children, are those that stay by themselves
abbrev pub AreUncut : Bool → List (Elem × Node) → List Path → List Path → List Path → Type 0
AreUncut in_dict cs gone held ps = (e : Element) (p : Path)
    → is_one_of ps (e ∷ p) ≡ stays_by (point_in in_dict e (child_at e cs) p) (goes gone (e ∷ p)) (is_one_of held (e ∷ p))

-- the path is a point of the tree, whose root is one or not
abbrev pub is_point_at : Bool → Node → Path → Bool
is_point_at root n [] = root
is_point_at root n (e ∷ p) = is_point_of (rows n) (e ∷ p)

-- these paths are those of the tree that stay by themselves
abbrev pub IsUncut : Bool → Node → List Path → List Path → List Path → Type 0
IsUncut root n gone held ps = (p : Path) → is_one_of ps p ≡ stays_by (is_point_at root n p) (goes gone p) (is_one_of held p)

-- ---- what stays

-- what is at or above one of these paths, if anything is
pub record IsLeft (ps : List Path) (n : Node) (made : Option Node) : Type 0 where
  pub content : (p : Path) → content_in made p ≡ part_at (λ q. list_any (under q) ps) p (content_at (rows n) p)
  pub trees : (m : Node) → made ≡ Some m → is_tree m ≡ true

-- ---- a trie, if there is one

abbrev pub paths_of : Option Trie → List Path
paths_of None = []
paths_of (Some t) = paths t

abbrev pub is_filled_in : Option Trie → Bool
is_filled_in None = true
is_filled_in (Some t) = is_trie t && is_filled t
