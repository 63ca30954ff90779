-- What one body has otherwise than another that comes before it, told by their trees.
use Rattle.std.specs.Prelude.{◌≡◌, ◌-◌, ◌^◌, min, ◌⊎◌, List, [], ◌∷◌, Bool, true, false, ◌&&◌, not, is_some, Option, Some, None}
use Rattle.ssa_model.specs.definitions.Path.{Element, Path}
use Rattle.ssa_model.specs.definitions.Body.{Body, Content, is_other_leaf, added, modified, over, removed}
use Rattle.ssa_path.specs.Children.{child_at, elements, rises}
use Rattle.ssa_path.specs.Combine.{IsGrown}
use Rattle.ssa_path.specs.Trie.{paths, paths_below, is_one_of, is_trie, are_filled_tries}
use Rattle.ssa_path.specs.declared.element.Elem.{Elem}
use Rattle.ssa_path.specs.declared.trie.Trie.{Trie}
use Rattle.ssa_path.specs.View.{element_view}
use Rattle.ssa_typed.specs.KeepsOrder.{KeepsItemOrder}
use Rattle.ssa_typed.specs.NewPlaces.{Brings, IsCountOn, new_below, new_places}
use Rattle.ssa_typed.specs.Points.{content_in, point_in, is_in_dict, IsChildTrie}
use Rattle.ssa_typed.specs.Rows.{rows, own_content, below, content_at, is_tree}
use Rattle.ssa_typed.specs.declared.compare.Comparison.{Comparison}
use Rattle.ssa_typed.specs.declared.compare.Parts.{Parts}
use Rattle.ssa_typed.specs.declared.compare.PartsBelow.{PartsBelow}
use Rattle.ssa_typed.specs.declared.compare.Scope.{Scope}
use Rattle.ssa_typed.specs.declared.compare.Scope.TheVariants.{Whole, Part}
use Rattle.ssa_typed.specs.declared.node.Node.{Node}
use Rattle.ssa_typed.specs.declared.part.PartComparison.{PartComparison}
use Rattle.ssa_typed.specs.declared.points.Collected.{Collected}
use Rattle.ssa_typed.specs.declared.points.Collected.TheVariants.{Points, All}

-- what is told of two bodies: what is removed depends on whether the one after is whole or a part that is put over the one before
pub data Difference : Type 0 where
  Added : Difference
  Modified : Difference
  Removed : Scope → Difference

-- the path is told at or below the children of the element, which the bodies before and after may lack
abbrev pub differs : Difference → Bool → Element → Option Node → Option Node → Path → Bool
differs Added in_dict e before after p = point_in in_dict e after p && not (is_some (content_in before p))
differs Modified in_dict e before after p = is_other_leaf (content_in before p) (content_in after p)
differs (Removed Whole) in_dict e before after p = is_some (content_in before p) && not (is_some (content_in after p))
differs (Removed Part) in_dict e before after p = false

-- a place that both trees have is told itself
abbrev pub differs_here : Difference → Node → Node → Bool
differs_here Added before after = false
differs_here Modified before after = is_other_leaf (Some (own_content before)) (Some (own_content after))
differs_here (Removed scope) before after = false

abbrev pub differs_below : Difference → Node → Node → Element → Path → Bool
differs_below what before after e p = differs what (is_in_dict after) e (child_at e (below before)) (child_at e (below after)) p

abbrev pub differs_at : Difference → Node → Node → Path → Bool
differs_at what before after [] = differs_here what before after
differs_at what before after (e ∷ p) = differs_below what before after e p

-- what is told of a child that only the tree before has, and of one that only the tree after has
abbrev pub told_of_lost : Difference → Option Collected
told_of_lost Added = None
told_of_lost Modified = None
told_of_lost (Removed Whole) = Some All
told_of_lost (Removed Part) = None

abbrev pub told_of_new : Difference → Option Collected
told_of_new Added = Some Points
told_of_new Modified = None
told_of_new (Removed scope) = None

-- one more child, with what is told of one that a single tree has, where that is some path
abbrev pub IsToldAlone : Option Collected → Bool → Elem × Node → List (Elem × Trie) → List (Elem × Trie) → Type 0
IsToldAlone what in_dict c old new = (t : Trie) × IsChildTrie what in_dict (element_view c.0) c.1 t × IsGrown (element_view c.0) t old new

-- one more child that only the tree before has: a part removes nothing
abbrev pub IsToldLost : Scope → Bool → Elem × Node → List (Elem × Trie) → List (Elem × Trie) → Type 0
IsToldLost Whole in_dict c old new = IsToldAlone (Some All) in_dict c old new
IsToldLost Part in_dict c old new = new ≡ old

-- tries that hold what differs below two nodes
pub record IsDiffering (what : Difference) (before after : Node) (ts : List (Elem × Trie)) : Type 0 where
  pub paths_are : (e : Element) (p : Path) → is_one_of (paths_below ts) (e ∷ p) ≡ differs_below what before after e p
  pub risen : rises (elements ts) ≡ true
  pub tries : are_filled_tries ts ≡ true

-- the trie of what differs between two trees
pub record IsDifference (what : Difference) (before after : Node) (t : Trie) : Type 0 where
  pub paths_are : (p : Path) → is_one_of (paths t) p ≡ differs_at what before after p
  pub trie : is_trie t ≡ true

-- ---- all that is told

pub record AreDiffering (scope : Scope) (before after : Node) (v : PartsBelow) : Type 0 where
  pub added_below : IsDiffering Added before after v.added.items
  pub modified_below : IsDiffering Modified before after v.modified.items
  pub removed_below : IsDiffering (Removed scope) before after v.removed.items
  pub new_are : v.new_places ≡ min (new_below (below before) (below after)) (2 ^ 64 - 1)

pub record AreDifferences (scope : Scope) (before after : Node) (v : Parts) : Type 0 where
  pub added_trie : IsDifference Added before after v.added
  pub modified_trie : IsDifference Modified before after v.modified
  pub removed_trie : IsDifference (Removed scope) before after v.removed
  pub new_are : v.new_places ≡ min (new_places before after) (2 ^ 64 - 1)

-- one more child, with what is told of one that both trees have, where that is some path; or none, where nothing is told
abbrev pub IsToldBoth : Difference → Elem × Node → Node → List (Elem × Trie) → List (Elem × Trie) → Type 0
IsToldBoth what c after old new = ((t : Trie) × IsDifference what c.1 after t × IsGrown (element_view c.0) t old new)
    ⊎ (((p : Path) → differs_at what c.1 after p ≡ false) × (new ≡ old))

pub record AreToldBoth (scope : Scope) (c : Elem × Node) (after : Node) (old new : PartsBelow) : Type 0 where
  pub added_told : IsToldBoth Added c after old.added.items new.added.items
  pub modified_told : IsToldBoth Modified c after old.modified.items new.modified.items
  pub removed_told : IsToldBoth (Removed scope) c after old.removed.items new.removed.items
  pub new_counted : IsCountOn old.new_places new.new_places (new_places c.1 after)

-- ---- trees of which nothing is told

-- something stands at both places or at neither, and no two leaves that differ
abbrev pub IsUntold : Option Content → Option Content → Type 0
IsUntold before after = (is_some before ≡ is_some after) × (is_other_leaf before after ≡ false)

abbrev pub AreUnchanged : Node → Node → Type 0
AreUnchanged before after = (p : Path) → IsUntold (content_at (rows before) p) (content_at (rows after) p)

abbrev pub TellsNothing : Parts → Type 0
TellsNothing v = (scope : Scope) (before after : Node) → is_tree before ≡ true → is_tree after ≡ true → AreUnchanged before after
    → AreDifferences scope before after v

-- ---- of bodies

pub record IsComparison (before after : Body) (c : Comparison) : Type 0 where
  pub added_are : c.added ≡ added before after
  pub modified_are : c.modified ≡ modified before after
  pub removed_are : c.removed ≡ removed before after

-- of a part that is put over a body
pub record IsPartComparison (body part : Body) (c : PartComparison) : Type 0 where
  pub added_are : c.added ≡ added body part
  pub modified_are : c.modified ≡ modified body part
  pub brings : Brings body part c.new_places
  pub repeats : c.repeats ≡ true → KeepsItemOrder body part → over body part ≡ body
