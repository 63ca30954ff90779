-- The merged order of the children of a live place and of the configuration's place.
use Rattle.std.specs.Prelude.{◌≡◌, List, [], ◌∷◌, ◌++◌, map, filter, Bool, true, false, not, Option, None, Some, ℕ, suc, if◌then◌else◌}
use Rattle.std.specs.Borrow.{Bor}
use Rattle.std.specs.List.Sorted.{IsNonDecreasingBy, IsPermutation}
use Rattle.ssa_model.specs.definitions.Path.{Element, same_element}
use Rattle.ssa_path.specs.Children.{child_at, elements, rises}
use Rattle.ssa_path.specs.SortKeys.{element_key}
use Rattle.ssa_path.specs.View.{element_view}
use Rattle.ssa_path.specs.declared.element.Elem.{Elem}
use Rattle.ssa_typed.specs.InOrder.{IsInOrder}
use Rattle.ssa_typed.specs.Rows.{are_apart}
use Rattle.ssa_typed.specs.declared.merged_order.Places.{Places}
use Rattle.ssa_typed.specs.declared.merged_order.Places.TheVariants.{AsTheyStand, Rising, InOrder}
use Rattle.ssa_typed.specs.declared.node.Node.{Node}

-- an element, its node, and what the configuration has over that
abbrev pub MergedChild : Type 0
MergedChild = Elem × (Node × Option Node)

-- no live child has the child's element
abbrev pub is_new : List (Elem × Node) → Elem × Node → Bool
is_new live d = elim (child_at (element_view d.0) live) [ None ↦ true | Some c ↦ false ]

-- a live child has the child's element
abbrev pub is_old : List (Elem × Node) → Elem × Node → Bool
is_old live d = not (is_new live d)

-- a live child with the configuration's child of its element
abbrev pub live_child : List (Elem × Node) → Elem × Node → MergedChild
live_child config c = (c.0, (c.1, child_at (element_view c.0) config))

-- a child that the configuration alone has
abbrev pub new_child : Elem × Node → MergedChild
new_child d = (d.0, (d.1, None))

-- the live children, and behind them those that the configuration alone has
abbrev pub merged : List (Elem × Node) → List (Elem × Node) → List MergedChild
merged live config = map (live_child config) live ++ map new_child (filter (is_new live) config)

-- the first child of this element, with the element
abbrev pub whole_child : Element → List (Elem × Node) → Option (Elem × Node)
whole_child e [] = None
whole_child e (d ∷ ds) = if same_element e (element_view d.0) then Some d else whole_child e ds

-- the configuration's child of a live child's element
abbrev pub beside : List (Elem × Node) → Elem × Node → Option (Elem × Node)
beside config c = whole_child (element_view c.0) config

-- one place further
abbrev pub next_place : Elem × ℕ → Elem × ℕ
next_place p = (p.0, suc p.1)

-- the elements of children, each with its place
abbrev pub places : List (Elem × Node) → List (Elem × ℕ)
places [] = []
places (c ∷ cs) = (c.0, 0) ∷ map next_place (places cs)

-- an element that is lent, with its place
abbrev pub lent_place : Bor Elem × ℕ → Elem × ℕ
lent_place p = (p.0.now, p.1)

-- of each child of the configuration the live place of its element, if it has one
abbrev pub live_places : List (Elem × Node) → List (Elem × Node) → List (Option ℕ)
live_places live config = map (λ d. child_at (element_view d.0) (places live)) config

-- the numbers of the children's elements, behind what all of them begin with
abbrev pub numbers : Element → ℕ → List (Elem × Node) → List ℕ
numbers first skip cs = map (λ c. element_key first skip (element_view c.0)) cs

-- these numbers, each with a place, none below one before it
pub record IsNumbered (all : List ℕ) (numbered : List (ℕ × ℕ)) : Type 0 where
  pub moved : IsPermutation all (map (λ p. p.0) numbered)
  pub rise : IsNonDecreasingBy (λ p. p.0) numbered

-- of each of these children of the configuration, in turn, the live place of its element
abbrev pub AreTurns : List (Elem × Node) → List (Elem × Node) → List ℕ → List (Elem × Node) → Type 0
AreTurns live config [] [] = Unit {0}
AreTurns live config [] (x ∷ xs) = ⊥
AreTurns live config (k ∷ ks) [] = ⊥
AreTurns live config (k ∷ ks) (x ∷ xs) =
    (child_at (element_view x.0) (places live) ≡ Some k) × (child_at (element_view x.0) config ≡ Some x.1) × AreTurns live config ks xs

-- by these, live children are found: as they stand, where their elements are apart; where they rise; or by their elements in order
abbrev pub ArePlacesOf : List (Elem × Node) → Places → Type 0
ArePlacesOf live (AsTheyStand own) = (own.now ≡ live) × (are_apart (elements live) ≡ true)
ArePlacesOf live (Rising own) = (own.now ≡ live) × (rises (elements live) ≡ true)
ArePlacesOf live (InOrder sorted) = IsInOrder (places live) (map lent_place sorted.items)
