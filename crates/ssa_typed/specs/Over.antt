-- One tree over another.
use Rattle.std.specs.Prelude.{◌≡◌, List, Some, true}
use Rattle.ssa_model.specs.definitions.Body.{joined, over_content}
use Rattle.ssa_model.specs.definitions.Path.{Element, Path}
use Rattle.ssa_path.specs.Children.{child_at, elements, rises}
use Rattle.ssa_path.specs.declared.element.Elem.{Elem}
use Rattle.ssa_typed.specs.Alike.{are_alike}
use Rattle.ssa_typed.specs.Points.{content_in}
use Rattle.ssa_typed.specs.Rows.{rows, content_at, is_tree, are_trees}
use Rattle.ssa_typed.specs.declared.node.Node.{Node}

-- where both trees have a place, it is of one sort
abbrev pub AreAlikeTrees : Node → Node → Type 0
AreAlikeTrees live config = (p : Path) → are_alike (content_at (rows live) p) (content_at (rows config) p) ≡ true

pub record IsOver (live config n : Node) : Type 0 where
  pub content : (p : Path) → content_at (rows n) p ≡ over_content (content_at (rows live) p) (content_at (rows config) p)
  pub tree : is_tree n ≡ true

-- where both have a child, the two trees are alike
abbrev pub AreAlikeBelow : List (Elem × Node) → List (Elem × Node) → Type 0
AreAlikeBelow live config = (e : Element) (c d : Node) → child_at e live ≡ Some c → child_at e config ≡ Some d → AreAlikeTrees c d

-- at each path below each element, the configuration's content over the live one's
abbrev pub HaveOver : List (Elem × Node) → List (Elem × Node) → List (Elem × Node) → Type 0
HaveOver live config cs = (e : Element) (p : Path)
    → content_in (child_at e cs) p ≡ over_content (content_in (child_at e live) p) (content_in (child_at e config) p)

-- children over others, in the joined order
pub record AreOver (live config cs : List (Elem × Node)) : Type 0 where
  pub elements_are : elements cs ≡ joined (elements live) (elements config)
  pub contents : HaveOver live config cs
  pub trees : are_trees cs ≡ true

-- children over others, in the order of their elements
pub record AreOverInOrder (live config cs : List (Elem × Node)) : Type 0 where
  pub rise : rises (elements cs) ≡ true
  pub contents : HaveOver live config cs
  pub trees : are_trees cs ≡ true
