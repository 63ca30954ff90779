-- Slots in which elements stand at their places, and the list that is woven of them and of the rest.
use Rattle.std.proofs.Common.{◌≡◌, ℕ, zero, suc, ◌<◌, ◌≤◌, List, [], ◌∷◌, ◌++◌, length, get_or, set, length-set, get_or-set_same, get_or-set_other, drop, map, Bool, true, false, not, Option, Some, None, refl, sym, ap, ◌∙◌, ◌≢◌, append_assoc, append-nil, arith}
use Rattle.std.proofs.lemmas.Bool.Decides.{nat_tests}
use Rattle.std.specs.Cmp.{first_so, second_so}
use Rattle.std.specs.Option.{option_map}
use Rattle.std.specs.Prelude.{filter, if◌then◌else◌, nat_lt, ◌==◌}
use Rattle.ssa_model.specs.definitions.Carry.{placed_at}
use Rattle.ssa_model.proofs.Tests.{by_test, filter-kept, filter-dropped}
use Rattle.ssa_record.specs.Refilled.{all_below, woven}

module _ {X : Type 0} where
  -- what a slot has
  abbrev pub slot : List (Option X) → ℕ → Option X
  slot ss j = get_or ss j None

  -- ---- places

  below-last : (n : ℕ) (ps qs : List (ℕ × X)) (x : ℕ × X) → all_below n (ps ++ x ∷ qs) ≡ true → x.0 < n
  below-last n [] qs x h = let one = first_so (nat_lt x.0 n) (all_below n qs) h in grind (arith, nat_tests)
  below-last n (p ∷ ps) qs x h = below-last n ps qs x (second_so (nat_lt p.0 n) (all_below n (ps ++ x ∷ qs)) h)

  -- ---- the slots

  -- of these elements the first are left, and those behind them stand in the slots
  pub record AreInSlots (all rest : List (ℕ × X)) (n : ℕ) (ss : List (Option X)) : Type 0 where
    -- the elements that stand in slots
    pub taken : List (ℕ × X)
    -- those that are left and those in slots are all
    pub whole : all ≡ rest ++ taken
    -- there are so many slots
    pub long : length ss ≡ n
    -- each slot has the element of its place, if it is taken
    pub put : (j : ℕ) → slot ss j ≡ placed_at taken j

  module _ (all old new : List (ℕ × X)) (n : ℕ) (ss : List (Option X)) (x : ℕ × X) (below : all_below n all ≡ true) (h : AreInSlots all old n ss)
      (is : old ≡ new ++ x ∷ []) where
    parts : all ≡ new ++ x ∷ h.taken
    parts = h.whole ∙ ap (λ l. l ++ h.taken) is ∙ append_assoc new (x ∷ []) h.taken

    -- an element's place is within the slots
    pub slot-within : x.0 < length ss
    slot-within = let one = below-last n new h.taken x (sym (ap (all_below n) parts) ∙ below) in let long = h.long in omega arith

    -- an element more is put in the slot of its place
    pub slots-more : AreInSlots all new n (set ss x.0 (Some x.1))
    slots-more = record {
      taken = x ∷ h.taken;
      whole = parts;
      long = simp length-set h.long;
      put = λ j. by_test (x.0 == j)
          (λ t.
          let same : x.0 ≡ j = grind (arith, nat_tests) in
          ap (λ k. get_or (set ss x.0 (Some x.1)) k None) (sym same) ∙ get_or-set_same ss x.0 (Some x.1) None slot-within
          ∙ ap (λ b. if b then Some x.1 else placed_at h.taken j) (sym t))
          (λ f.
          let other : j ≢ x.0 = grind (arith, nat_tests) in
          let kept : get_or (set ss x.0 (Some x.1)) j None ≡ get_or ss j None = rw get_or-set_other refl in
          kept ∙ h.put j ∙ ap (λ b. if b then Some x.1 else placed_at h.taken j) (sym f));
    }

  -- ---- what is woven

  -- the slots from i on and what stays from k on are left
  abbrev pub IsWovenTo : List (Option X) → List X → ℕ → ℕ → List X → Type 0
  IsWovenTo ss xs i k ys = woven ss xs ≡ ys ++ woven (drop i ss) (drop k xs)

  -- ---- a list is woven of those of its elements that are chosen and of the others

  -- the element of a place, if it is chosen
  abbrev pub chosen : (X → Bool) → List X → ℕ → Option X
  chosen test [] j = None
  chosen test (y ∷ ys) zero = if test y then Some y else None
  chosen test (y ∷ ys) (suc j) = chosen test ys j

  step : (s : Option X) (ss : List (Option X)) (xs ys : List X) (y : X) → s ≡ Some y → woven ss xs ≡ ys → woven (s ∷ ss) xs ≡ y ∷ ys
  step s ss xs ys y is rest = ap (λ o. woven (o ∷ ss) xs) is ∙ ap (λ l. y ∷ l) rest

  -- slots that have the chosen elements of a list, woven with the others, make the list
  pub woven-is : (test : X → Bool) (ss : List (Option X)) (ys : List X) → length ys ≤ length ss → ((j : ℕ) → slot ss j ≡ chosen test ys j)
      → woven ss (filter (λ y. not (test y)) ys) ≡ ys
  woven-is test [] [] le h = refl
  woven-is test [] (y ∷ ys) le h = absurd (omega arith)
  woven-is test (s ∷ ss) [] le h = ap (λ o. woven (o ∷ ss) []) (h 0) ∙ woven-is test ss [] (omega arith) (λ j. h (suc j))
  woven-is test (s ∷ ss) (y ∷ ys) le h =
      let rest = woven-is test ss ys (omega arith) (λ j. h (suc j)) in
      by_test (test y)
      (λ t.
      ap (woven (s ∷ ss)) (filter-dropped (λ z. not (test z)) y ys (ap not t))
      ∙ step s ss (filter (λ z. not (test z)) ys) ys y (h 0 ∙ ap (λ b. if b then Some y else None) t) rest)
      (λ f.
      ap (woven (s ∷ ss)) (filter-kept (λ z. not (test z)) y ys (ap not f))
      ∙ ap (λ o. woven (o ∷ ss) (y ∷ filter (λ z. not (test z)) ys)) (h 0 ∙ ap (λ b. if b then Some y else None) f)
      ∙ ap (λ l. y ∷ l) rest)

-- ---- shown by a function

module _ {X Y : Type 0} (f : X → Y) where
  -- a list woven of what a function shows is what it shows of the woven list
  pub woven-map : (ss : List (Option X)) (xs : List X) → map f (woven ss xs) ≡ woven (map (option_map f) ss) (map f xs)
  woven-map [] xs = refl
  woven-map (Some y ∷ ss) xs = ap (λ l. f y ∷ l) (woven-map ss xs)
  woven-map (None ∷ ss) [] = woven-map ss []
  woven-map (None ∷ ss) (x ∷ xs) = ap (λ l. f x ∷ l) (woven-map ss xs)

  -- a slot of what a function shows has what it shows of the slot
  pub slot-map : (ss : List (Option X)) (j : ℕ) → slot (map (option_map f) ss) j ≡ option_map f (slot ss j)
  slot-map [] j = refl
  slot-map (s ∷ ss) zero = refl
  slot-map (s ∷ ss) (suc j) = slot-map ss j

  -- the element at a place, shown by a function, is that of the shown elements
  pub placed-map : (ps : List (ℕ × X)) (j : ℕ) → option_map f (placed_at ps j) ≡ placed_at (map (λ p. (p.0, f p.1)) ps) j
  placed-map [] j = refl
  placed-map (p ∷ ps) j =
      elim (p.0 == j) as (λ b. option_map f (if b then Some p.1 else placed_at ps j) ≡ (if b then Some (f p.1) else placed_at (map (λ q. (q.0, f q.1)) ps) j)) [
        | true ↦ refl
        | false ↦ placed-map ps j
      ]
