-- Children under elements: each element once, in the order of the elements where they rise.
use Rattle.std.specs.Prelude.{◌≡◌, ℕ, ◌<◌, ◌≤◌, List, [], ◌∷◌, ◌++◌, length, take, drop, Option, Some, None, Bool, true, ◌&&◌, if◌then◌else◌, Result}
use Rattle.std.specs.Ordering.{is_lt}
use Rattle.std.specs.List.{slice_index_or}
use Rattle.std.specs.Result.{MatchResult}
use Rattle.std.specs.declared.cmp.Ordering.{Ordering}
use Rattle.std.specs.declared.cmp.Ordering.TheVariants.{Less, Greater}
use Rattle.ssa_model.specs.definitions.Path.{Element, element_cmp, same_element}
use Rattle.ssa_path.specs.declared.element.Elem.{Elem}
use Rattle.ssa_path.specs.View.{element_view}

-- the elements of the children
abbrev pub elements : {A : Type 0} → List (Elem × A) → List Element
elements [] = []
elements (c ∷ cs) = element_view c.0 ∷ elements cs

-- the first child of this element
abbrev pub child_at : {A : Type 0} → Element → List (Elem × A) → Option A
child_at e [] = None
child_at e (c ∷ cs) = if same_element e (element_view c.0) then Some c.1 else child_at e cs

-- this element is below each of the others
abbrev pub is_below : Element → List Element → Bool
is_below e [] = true
is_below e (f ∷ fs) = is_lt (element_cmp e f) && is_below e fs

-- the elements rise
abbrev pub rises : List Element → Bool
rises [] = true
rises (e ∷ es) = is_below e es && rises es

-- how the first children of two lists compare: where one list has no more, the other's is first
abbrev pub heads_order : {A B : Type 0} → List (Elem × A) → List (Elem × B) → Option Ordering
heads_order [] [] = None
heads_order [] (d ∷ ds) = Some Greater
heads_order (c ∷ cs) [] = Some Less
heads_order (c ∷ cs) (d ∷ ds) = Some (element_cmp (element_view c.0) (element_view d.0))

-- the child at this place is that of the element
pub record IsChildAt {A : Type 0} (e : Element) (cs : List (Elem × A)) (i : ℕ) : Type 0 where
  pub within : i < length cs
  pub same : (c : Elem × A) → same_element e (element_view (slice_index_or cs i c).0) ≡ true

-- a child of the element may be put at this place
pub record IsGapFor {A : Type 0} (e : Element) (cs : List (Elem × A)) (i : ℕ) : Type 0 where
  pub within : i ≤ length cs
  pub between : rises (elements (take i cs) ++ e ∷ elements (drop i cs)) ≡ true

-- what a search for the child of the element answers
abbrev pub IsSearchResult : {A : Type 0} → Element → List (Elem × A) → Result ℕ ℕ → Type 0
IsSearchResult e cs r = MatchResult r (IsChildAt e cs) (IsGapFor e cs)
