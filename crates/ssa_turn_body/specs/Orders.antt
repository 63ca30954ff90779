-- A list in another order, told by exchanges of two elements.
use Rattle.std.specs.Prelude.{◌≡◌, ℕ, ◌<◌, List, [], ◌∷◌, Bool, true, false, length, slice_index}
use Rattle.std.specs.List.{swap}

-- the exchanges are made one after the other
abbrev pub reordered : {X : Type 0} → List X → List (ℕ × ℕ) → List X
reordered xs [] = xs
reordered xs (p ∷ ps) = reordered (swap xs p.0 p.1) ps

abbrev pub is_none : {X : Type 0} → List X → Bool
is_none [] = true
is_none (x ∷ xs) = false

-- each is below the number
abbrev pub AreWithin : ℕ → List ℕ → Type 0
AreWithin n ks = (i : ℕ) → i < length ks → slice_index ks i < n

-- no two are equal
abbrev pub AreDistinct : List ℕ → Type 0
AreDistinct ks = (i j : ℕ) → i < j → j < length ks → slice_index ks i ≡ slice_index ks j → ⊥
