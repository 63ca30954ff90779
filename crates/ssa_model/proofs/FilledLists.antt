-- A list is what its elements at given places and the others, in their order, fill.
use Rattle.std.proofs.Common.{ℕ, zero, suc, ◌≡◌, ◌+◌, ◌≤◌, ◌<◌, List, [], ◌∷◌, Bool, true, false, cond, not, Option, Some, None, refl, ap, sym, ◌∙◌, arith}
use Rattle.std.proofs.lemmas.Bool.Decides.{nat_tests}
use Rattle.std.proofs.lemmas.Option.{none-some}
use Rattle.std.specs.Prelude.{filter, if◌then◌else◌, ◌==◌, map}
use Rattle.ssa_model.specs.definitions.Record.{placed}
use Rattle.ssa_model.specs.definitions.Carry.{placed_at, filled, end_of}
use Rattle.ssa_model.proofs.Tests.{by_test}

apart : (i j : ℕ) → i < j → (i == j) ≡ false
apart i j h = grind (arith, nat_tests)

here : (i : ℕ) → (i == i) ≡ true
here i = grind (arith, nat_tests)

module _ {X : Type 0} where
  -- the places from i on give those elements of the list that do not stay, and nothing after it
  abbrev pub Gives : (ℕ → Option X) → (X → Bool) → ℕ → List X → Type 0
  Gives at stays i [] = (j : ℕ) → i ≤ j → at j ≡ None
  Gives at stays i (y ∷ ys) = (at i ≡ (if stays y then None else Some y)) × Gives at stays (i + 1) ys

  step : (at : ℕ → Option X) (i n : ℕ) (xs : List X) (o : Option X) → at i ≡ o → filled at i (suc n) xs ≡ elim o [
    | Some y ↦ y ∷ filled at (i + 1) n xs
    | None ↦ elim xs [ [] ↦ filled at (i + 1) n [] | x ∷ rest ↦ x ∷ filled at (i + 1) n rest ]
  ]
  step at i n xs o e = ap (λ p. elim p [
    | Some y ↦ y ∷ filled at (i + 1) n xs
    | None ↦ elim xs [ [] ↦ filled at (i + 1) n [] | x ∷ rest ↦ x ∷ filled at (i + 1) n rest ]
  ]) e

  -- where no element is given from i on and none is left, nothing is filled in
  pub filled_none : (at : ℕ → Option X) (i n : ℕ) → ((j : ℕ) → i ≤ j → at j ≡ None) → filled at i n [] ≡ []
  filled_none at i zero none = refl
  filled_none at i (suc n) none = step at i n [] None (none i (omega arith)) ∙ filled_none at (i + 1) n (λ j h. none j (omega arith))

  -- nothing is given from i on, so all stay
  pub all_stay : (at : ℕ → Option X) (stays : X → Bool) (i : ℕ) (ys : List X) → ((j : ℕ) → i ≤ j → at j ≡ None) → Gives at stays i ys → filter stays ys ≡ ys
  all_stay at stays i [] none g = refl
  all_stay at stays i (y ∷ ys) none g =
      let rest = all_stay at stays (i + 1) ys (λ j h. none j (omega arith)) g.1 in
      by_test (stays y)
      (λ t. (λ k. cond (t k) (y ∷ rest k) (rest k)))
      (λ f. absurd (none-some y (sym (none i (omega arith)) ∙ g.0 ∙ ap (λ b. if b then None else Some y) f)))

  -- the elements that stay, with the others given for their places, fill up to the list
  pub filled_is : (at : ℕ → Option X) (stays : X → Bool) (i n : ℕ) (ys : List X) → Gives at stays i ys → ((j : ℕ) → i + n ≤ j → at j ≡ None)
      → filled at i n (filter stays ys) ≡ ys
  filled_is at stays i zero ys g none = all_stay at stays i ys (λ j h. none j (omega arith)) g
  filled_is at stays i (suc n) [] g none = filled_none at i (suc n) g
  filled_is at stays i (suc n) (y ∷ ys) g none =
      let rest = filled_is at stays (i + 1) n ys g.1 (λ j h. none j (omega arith)) in
      by_test (stays y)
      (λ t. ap (λ b. filled at i (suc n) (cond b (y ∷ filter stays ys) (filter stays ys))) t
      ∙ step at i n (y ∷ filter stays ys) None (g.0 ∙ ap (λ b. if b then None else Some y) t) ∙ ap (λ zs. y ∷ zs) rest)
      (λ f. ap (λ b. filled at i (suc n) (cond b (y ∷ filter stays ys) (filter stays ys))) f
      ∙ step at i n (filter stays ys) (Some y) (g.0 ∙ ap (λ b. if b then None else Some y) f) ∙ ap (λ zs. y ∷ zs) rest)

  -- ---- places of the elements of a list

  placed_before : (test : X → Bool) (i j : ℕ) (ys : List X) → j < i → placed_at (placed test i ys) j ≡ None
  placed_before test i j [] h = refl
  placed_before test i j (y ∷ ys) h =
      let rest = placed_before test (i + 1) j ys (omega arith) in
      elim (test y) as (λ b. placed_at (if b then (i, y) ∷ placed test (i + 1) ys else placed test (i + 1) ys) j ≡ None) [
        | true ↦ ap (λ b. if b then Some y else placed_at (placed test (i + 1) ys) j) (let e : (i == j) ≡ false = grind (arith, nat_tests) in e) ∙ rest
        | false ↦ rest
      ]

  -- the places that a test gives, from any function that answers as they do from i on
  pub placed_gives : (at : ℕ → Option X) (test : X → Bool) (i : ℕ) (ys : List X) → ((j : ℕ) → i ≤ j → at j ≡ placed_at (placed test i ys) j)
      → Gives at (λ y. not (test y)) i ys
  placed_gives at test i [] alike = alike
  placed_gives at test i (y ∷ ys) alike =
      by_test (test y)
      (λ t. (
        alike i (omega arith) ∙ ap (λ b. placed_at (if b then (i, y) ∷ placed test (i + 1) ys else placed test (i + 1) ys) i) t
            ∙ ap (λ b. if b then Some y else placed_at (placed test (i + 1) ys) i) (here i) ∙ ap (λ b. if not b then None else Some y) (sym t),
        placed_gives at test (i + 1) ys (λ j h.
            alike j (omega arith) ∙ ap (λ b. placed_at (if b then (i, y) ∷ placed test (i + 1) ys else placed test (i + 1) ys) j) t
            ∙ ap (λ b. if b then Some y else placed_at (placed test (i + 1) ys) j) (apart i j (omega arith))),
      ))
      (λ f. (
        alike i (omega arith) ∙ ap (λ b. placed_at (if b then (i, y) ∷ placed test (i + 1) ys else placed test (i + 1) ys) i) f
            ∙ placed_before test (i + 1) i ys (omega arith) ∙ ap (λ b. if not b then None else Some y) (sym f),
        placed_gives at test (i + 1) ys (λ j h. alike j (omega arith)
            ∙ ap (λ b. placed_at (if b then (i, y) ∷ placed test (i + 1) ys else placed test (i + 1) ys) j) f),
      ))

  -- no place is at the end or after it
  pub placed_end : (es : List (ℕ × X)) (j : ℕ) → end_of (map (λ e. e.0) es) ≤ j → placed_at es j ≡ None
  placed_end [] j h = refl
  placed_end (e ∷ es) j h =
      let off : (e.0 == j) ≡ false = grind (arith, nat_tests) in
      ap (λ b. if b then Some e.1 else placed_at es j) off ∙ placed_end es j (omega arith)
