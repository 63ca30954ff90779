-- Sums over lists.
use Rattle.std.proofs.Common.{◌≡◌, ℕ, ◌+◌, ◌≤◌, List, [], ◌∷◌, length, Bool, true, false, refl, sym, ap, ◌∙◌, arith}
use Rattle.std.proofs.lemmas.List.Sums.{sum_by-cons}
use Rattle.std.specs.List.{sum_by}
use Rattle.std.specs.Prelude.{if◌then◌else◌}

module _ {X : Type 0} where
  -- the sum, element by element
  abbrev pub total : (X → ℕ) → List X → ℕ
  total f [] = 0
  total f (x ∷ xs) = f x + total f xs

  -- std's sum over a list is this sum
  pub sum-total : (f : X → ℕ) (xs : List X) → sum_by f xs ≡ total f xs
  sum-total f [] = refl
  sum-total f (x ∷ xs) = sum_by-cons f x xs ∙ ap (λ n. f x + n) (sum-total f xs)

  -- the sum of two terms for each element is the two sums together
  pub total-add : (f g : X → ℕ) (xs : List X) → total (λ x. f x + g x) xs ≡ total f xs + total g xs
  total-add f g [] = omega arith
  total-add f g (x ∷ xs) = let e = total-add f g xs in omega arith

  -- where each term is no more than another, neither is the sum
  pub total-le : (f g : X → ℕ) → ((x : X) → f x ≤ g x) → (xs : List X) → total f xs ≤ total g xs
  total-le f g h [] = omega arith
  total-le f g h (x ∷ xs) = let e = total-le f g h xs in let l = h x in omega arith

  -- nothing for each element is nothing in sum
  pub total-zero : (xs : List X) → total (λ x. 0) xs ≡ 0
  total-zero [] = refl
  total-zero (x ∷ xs) = let e = total-zero xs in omega arith

  -- the sum under a test is the sum of the terms under it
  pub total-if : (b : Bool) (f : X → ℕ) (xs : List X) → (if b then total f xs else 0) ≡ total (λ x. if b then f x else 0) xs
  total-if true f xs = refl
  total-if false f xs = sym (total-zero xs)

  -- the length of a list is the sum of one for each element
  pub length-total : (xs : List X) → length xs ≡ total (λ x. 1) xs
  length-total [] = refl
  length-total (x ∷ xs) = let e = length-total xs in omega arith
