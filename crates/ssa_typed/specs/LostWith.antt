-- What a live body loses where a configuration is put over it and places are given up.
use Rattle.std.specs.Prelude.{◌≡◌, List, [], ◌∷◌, Bool, true, false, not, ◌&&◌, ◌||◌, is_some, Option, None, Some}
use Rattle.std.specs.List.{list_any}
use Rattle.ssa_model.specs.definitions.Body.{Body, over, points, restricted}
use Rattle.ssa_model.specs.definitions.Path.{Element, Path, is_root, under}
use Rattle.ssa_model.specs.definitions.PathMap.{PathSet, has, has_at_or_below, set_of, union}
use Rattle.ssa_model.specs.definitions.PathMap.{paths as set_paths}
use Rattle.ssa_path.specs.Children.{elements, rises}
use Rattle.ssa_path.specs.Trie.{are_filled_tries, is_one_of, is_trie, paths, paths_below}
use Rattle.ssa_path.specs.declared.element.Elem.{Elem}
use Rattle.ssa_path.specs.declared.trie.Trie.{Trie}
use Rattle.ssa_path.specs.declared.trie.Trie.TheViews.{out-Trie}
use Rattle.ssa_typed.specs.Cut.{uncut, AreUncut, IsUncut}
use Rattle.ssa_typed.specs.Points.{content_in, is_in_dict}
use Rattle.ssa_typed.specs.Rows.{below, content_at, rows}
use Rattle.ssa_typed.specs.declared.node.Node.{Node}

-- the configuration has no path of `gone`, and `held` has none at or below it
abbrev pub AreFree : Body → PathSet → PathSet → Type 0
AreFree config gone held = (g : Path) → has gone g ≡ true → (has config g ≡ false) × (has_at_or_below held g ≡ false)

-- what is left of the configuration over the live body where paths are cut out, others are held, and so are the configuration's points above those
abbrev pub left_with : Body → Body → PathSet → PathSet → Body
left_with live config gone held =
    let merged = over live config in
    restricted merged (λ p. is_root p || has_at_or_below (uncut merged gone (union held (set_of (set_paths (points config)) (has_at_or_below gone)))) p)

-- ---- told by trees

-- the tries below a trie, if there is one
abbrev pub tries_in : Option Trie → List (Elem × Trie)
tries_in None = []
tries_in (Some t) = (out-Trie t).below.items

-- the configuration has none of the paths that go, and none that is held is at or below one of them
abbrev pub IsFree : Option Node → List Path → List Path → Type 0
IsFree config gone held = (g : Path) → is_one_of gone g ≡ true → (is_some (content_in config g) ≡ false) × (list_any (under g) held ≡ false)

-- the live tree has the place, the configuration has not, and none of these paths is at or below it
abbrev pub falls : List Path → Node → Option Node → Path → Bool
falls ps live config p = is_some (content_at (rows live) p) && not (is_some (content_in config p) || list_any (under p) ps)

-- tries that hold the places that fall below a live node, whatever paths stay by themselves
pub record AreFallen (live : Node) (config : Option Node) (gone held : List Path) (ts : List (Elem × Trie)) : Type 0 where
  pub paths_are : (ps : List Path) → AreUncut (is_in_dict live) (below live) gone held ps
      → (e : Element) (p : Path) → is_one_of (paths_below ts) (e ∷ p) ≡ falls ps live config (e ∷ p)
  pub risen : rises (elements ts) ≡ true
  pub tries : are_filled_tries ts ≡ true

-- the trie of the places that fall at and below a live child, which is a point or not
pub record IsFallen (point : Bool) (live : Node) (config : Option Node) (gone held : List Path) (t : Trie) : Type 0 where
  pub paths_are : (ps : List Path) → IsUncut point live gone held ps → (p : Path) → is_one_of (paths t) p ≡ falls ps live config p
  pub trie : is_trie t ≡ true

-- the trie of the places that fall in a live tree, whose root stays
pub record AreLost (live config : Node) (gone held : List Path) (t : Trie) : Type 0 where
  pub paths_are : (ps : List Path) → AreUncut (is_in_dict live) (below live) gone held ps → (p : Path) → is_one_of (paths t) p ≡ falls ps live (Some config) p
  pub trie : is_trie t ≡ true

-- each of the tries has its own place
abbrev pub all_here : List (Elem × Trie) → Bool
all_here [] = true
all_here (c ∷ cs) = (out-Trie c.1).here && all_here cs
