-- Where the children of one place stand among those of another, and the order in which they shall stand.
use Rattle.std.specs.Prelude.{◌≡◌, ℕ, zero, suc, ◌+◌, ◌<◌, ◌≤◌, ◌==◌, List, [], ◌∷◌, length, Bool, true, false, not, ◌&&◌, Option, Some, None, is_some, slice_get}
use Rattle.std.specs.List.{list_any, range_with_len}
use Rattle.std.specs.List.Sorted.{SwapsInRange}
use Rattle.ssa_model.specs.definitions.Kind.{is_among}
use Rattle.ssa_model.specs.definitions.Path.{Element}
use Rattle.ssa_path.specs.Children.{child_at, elements, IsChildAt}
use Rattle.ssa_path.specs.View.{element_view}
use Rattle.ssa_turn_body.specs.Edits.{named_in}
use Rattle.ssa_turn_body.specs.Marks.{Child}
use Rattle.ssa_turn_body.specs.Orders.{reordered}
use Rattle.ssa_turn_body.specs.declared.children.Placed.{Placed}

-- the place of the child of the same element, if there is one
abbrev pub IsFound : List Child → Child → Option ℕ → Type 0
IsFound cs d None = child_at (element_view d.0) cs ≡ None
IsFound cs d (Some k) = IsChildAt (element_view d.0) cs k

-- of each of the second children its place among the first
abbrev pub AreFound : List Child → List Child → List (Option ℕ) → Type 0
AreFound cs [] [] = Unit {0}
AreFound cs [] (f ∷ fs) = ⊥
AreFound cs (d ∷ ds) [] = ⊥
AreFound cs (d ∷ ds) (f ∷ fs) = IsFound cs d f × AreFound cs ds fs

-- the places that are told
abbrev pub somes : List (Option ℕ) → List ℕ
somes [] = []
somes (None ∷ fs) = somes fs
somes (Some k ∷ fs) = k ∷ somes fs

-- where none is told, counted from this number
abbrev pub nones : ℕ → List (Option ℕ) → List ℕ
nones j [] = []
nones j (None ∷ fs) = j ∷ nones (j + 1) fs
nones j (Some k ∷ fs) = nones (j + 1) fs

-- what stands where none is told
abbrev pub fresh : {X : Type 0} → List (Option ℕ) → List X → List X
fresh [] xs = []
fresh (f ∷ fs) [] = []
fresh (None ∷ fs) (x ∷ xs) = x ∷ fresh fs xs
fresh (Some k ∷ fs) (x ∷ xs) = fresh fs xs

-- what stands where one is told
abbrev pub kept : {X : Type 0} → List (Option ℕ) → List X → List X
kept [] xs = []
kept (f ∷ fs) [] = []
kept (None ∷ fs) (x ∷ xs) = kept fs xs
kept (Some k ∷ fs) (x ∷ xs) = x ∷ kept fs xs

-- these numbers in turn where one is told, and each other place itself
abbrev pub filled : ℕ → List (Option ℕ) → List ℕ → List ℕ
filled j [] os = []
filled j (None ∷ fs) os = j ∷ filled (j + 1) fs os
filled j (Some k ∷ fs) [] = j ∷ filled (j + 1) fs []
filled j (Some k ∷ fs) (o ∷ os) = o ∷ filled (j + 1) fs os

-- what stands at each place that is told is already as in the second list
abbrev pub AreLed : {X : Type 0} → List (Option ℕ) → List X → List X → Type 0
AreLed [] xs [] = Unit {0}
AreLed [] xs (l ∷ ls) = ⊥
AreLed (f ∷ fs) xs [] = ⊥
AreLed (None ∷ fs) xs (l ∷ ls) = AreLed fs xs ls
AreLed (Some k ∷ fs) xs (l ∷ ls) = (slice_get xs k ≡ Some l) × AreLed fs xs ls

-- a place is told just where the element is among the others
abbrev pub AreKnown : List (Option ℕ) → List Element → List Element → Type 0
AreKnown [] [] os = Unit {0}
AreKnown [] (e ∷ es) os = ⊥
AreKnown (f ∷ fs) [] os = ⊥
AreKnown (f ∷ fs) (e ∷ es) os = (is_some f ≡ is_among e os) × AreKnown fs es os

-- ---- numbers of a list

abbrev pub is_in : ℕ → List ℕ → Bool
is_in x xs = list_any (λ y. x == y) xs

abbrev pub all_differ : List ℕ → Bool
all_differ [] = true
all_differ (x ∷ xs) = not (is_in x xs) && all_differ xs

abbrev pub AreBelow : ℕ → List ℕ → Type 0
AreBelow n [] = Unit {0}
AreBelow n (x ∷ xs) = (x < n) × AreBelow n xs

-- ---- the other way round

-- so many places of which nothing is told
abbrev pub nothing_told : ℕ → List (Option ℕ)
nothing_told zero = []
nothing_told (suc n) = None ∷ nothing_told n

-- whether a place is told
abbrev pub is_told : List (Option ℕ) → ℕ → Bool
is_told [] x = false
is_told (b ∷ bs) zero = is_some b
is_told (b ∷ bs) (suc x) = is_told bs x

-- of so many places those are told that the first list tells
pub record IsTurnedRound (n : ℕ) (fs back : List (Option ℕ)) : Type 0 where
  pub long : length back ≡ n
  pub count : length (somes back) ≡ length (somes fs)
  pub there : (x : ℕ) → is_told back x ≡ is_in x (somes fs)

-- the children whose places are not told, and where they stand
pub record AreMissing (fs : List (Option ℕ)) (cs : List Child) (p : Placed) : Type 0 where
  pub places : p.places.items ≡ nones 0 fs
  pub named : named_in p ≡ fresh fs (elements cs)

-- the exchanges bring what stays into the order of the second children, no more than there are children, and none where it stands so
pub record IsReordering (fs back : List (Option ℕ)) (swaps : List (ℕ × ℕ)) : Type 0 where
  pub range : SwapsInRange (length back) swaps
  pub order : reordered (range_with_len 0 (length back)) swaps ≡ filled 0 back (somes fs)
  pub none : filled 0 back (somes fs) ≡ range_with_len 0 (length back) → swaps ≡ []
  pub few : length swaps ≤ length back
