-- Exchanges that put at each place what is wanted there.
use Rattle.std.proofs.Common.{◌≡◌, ℕ, zero, suc, add-one, ◌+◌, ◌<◌, ◌≤◌, List, [], ◌∷◌, ◌++◌, length, get_or, set, Bool, true, false, eqb, cond, refl, sym, ap, subst, ◌∙◌, arith, true≢false}
use Rattle.std.specs.List.{swap, range_with_len}
use Rattle.std.specs.List.Sorted.{SwapsInRange}
use Rattle.std.proofs.lemmas.Bool.{eqb-true}
use Rattle.std.proofs.lemmas.Bool.Decides.{nat_tests}
use Rattle.std.proofs.lemmas.List.{get_or-set_other, length-append, length-set, ext_get_or}
use Rattle.std.proofs.lemmas.List.FromFn.{length-range_with_len, get_or-range_with_len}
use Rattle.std.proofs.lemmas.Grind.{get_or-set_at}
use Rattle.std.proofs.lemmas.List.Edits.{length-swap}
use Rattle.ssa_turn_body.specs.Orders.{reordered, AreWithin, AreDistinct}
use Rattle.ssa_turn_body.proofs.Ordering.{get-swap, reordered-push, range-append}
use Rattle.ssa_turn_body.proofs.Weaving.{same_number}

-- one number more
pub range-more : (a n j : ℕ) → a + n ≡ j → range_with_len a (n + 1) ≡ range_with_len a n ++ j ∷ []
range-more a n j e = rw add-one (go a n j e)
  where
    go : (a n j : ℕ) → a + n ≡ j → range_with_len a (suc n) ≡ range_with_len a n ++ j ∷ []
    go a zero j e = let same : a ≡ j = omega arith in ap (λ k. k ∷ []) same
    go a (suc n) j e = ap (λ xs. a ∷ xs) (go (a + 1) n j (omega arith))

get-put : (xs : List ℕ) (j k a : ℕ) → j < length xs → get_or (set xs j a) k 0 ≡ cond (eqb k j) a (get_or xs k 0)
get-put xs j k a lt =
    elim (eqb k j) as (λ c. eqb k j ≡ c → get_or (set xs j a) k 0 ≡ cond c a (get_or xs k 0)) [
      | true ↦ λ t. let same = eqb-true k j t in get_or-set_at xs j k a 0 same lt
      | false ↦ λ t. get_or-set_other xs j k a 0 (λ e. true≢false (sym (ap (λ n. eqb n j) e ∙ same_number j) ∙ t))
    ] refl

picked : {b : Bool} (x y : ℕ) → b ≡ true → cond b x y ≡ x
picked x y e = ap (λ b. cond b x y) e

passed : {b : Bool} (x y : ℕ) → b ≡ false → cond b x y ≡ y
passed x y e = ap (λ b. cond b x y) e

other : (k j : ℕ) → (k ≡ j → ⊥) → eqb k j ≡ false
other k j ne =
    elim (eqb k j) as (λ b. eqb k j ≡ b → b ≡ false) [
      | true ↦ λ t. absurd (ne (eqb-true k j t))
      | false ↦ λ t. refl
    ] refl

-- at the first places stands what is wanted; `places` tells where each number stands
pub record IsExchanging (wanted : List ℕ) (i : ℕ) (order places : List ℕ) (swaps : List (ℕ × ℕ)) : Type 0 where
  -- the order is what the exchanges so far have made
  pub made : order ≡ reordered (range_with_len 0 (length wanted)) swaps
  -- the exchanges are within the list
  pub range : SwapsInRange (length wanted) swaps
  -- the order is as long as the list
  pub long : length order ≡ length wanted
  -- there is a place for each number
  pub places_long : length places ≡ length wanted
  -- each number in the order is within the list
  pub within : (k : ℕ) → k < length wanted → get_or order k 0 < length wanted
  -- each place told is within the list
  pub there : (x : ℕ) → x < length wanted → get_or places x 0 < length wanted
  -- at the place of each number stands the number
  pub stands : (x : ℕ) → x < length wanted → get_or order (get_or places x 0) 0 ≡ x
  -- at the first places stands what is wanted
  pub done : (k : ℕ) → k < i → get_or order k 0 ≡ get_or wanted k 0
  -- no more is exchanged than there are first places
  pub few : length swaps ≤ i
  -- where all stand as wanted, nothing was exchanged
  pub idle : wanted ≡ range_with_len 0 (length wanted) → swaps ≡ []

-- at first each number stands at its own place
pub exchanging-init : (wanted order places : List ℕ) → order ≡ range_with_len 0 (length wanted) → places ≡ range_with_len 0 (length wanted)
    → IsExchanging wanted 0 order places []
exchanging-init wanted order places o p =
    let n = length wanted in
    let at : (xs : List ℕ) → xs ≡ range_with_len 0 n → (k : ℕ) → k < n → get_or xs k 0 ≡ k =
    λ xs e k lt. ap (λ ys. get_or ys k 0) e ∙ get_or-range_with_len 0 n k 0 lt ∙ omega arith in
    record {
      made = o;
      range = tt;
      long = ap length o ∙ length-range_with_len 0 n;
      places_long = ap length p ∙ length-range_with_len 0 n;
      within = λ k lt. subst (λ x. x < n) (sym (at order o k lt)) lt;
      there = λ x lt. subst (λ y. y < n) (sym (at places p x lt)) lt;
      stands = λ x lt. ap (λ k. get_or order k 0) (at places p x lt) ∙ at order o x lt;
      done = λ k lt. absurd (omega arith);
      few = omega arith;
      idle = λ e. refl;
    }

module _ (wanted : List ℕ) (i : ℕ) (order places : List ℕ) (swaps : List (ℕ × ℕ)) (lt : i < length wanted) (in_range : AreWithin (length wanted) wanted)
    (h : IsExchanging wanted i order places swaps) where
  next-stands : get_or order (get_or places (get_or wanted i 0) 0) 0 ≡ get_or wanted i 0
  next-stands = h.stands (get_or wanted i 0) (in_range i lt)

  -- what stands elsewhere is exchanged
  module _ (apart : AreDistinct wanted) (moves : get_or places (get_or wanted i 0) 0 ≡ i → ⊥) where
    -- the order and the places afterwards
    abbrev order_after : List ℕ
    order_after = swap order i (get_or places (get_or wanted i 0) 0)

    abbrev places_after : List ℕ
    places_after = set (set places (get_or order i 0) (get_or places (get_or wanted i 0) 0)) (get_or wanted i 0) i

    next-within : get_or wanted i 0 < length wanted
    next-within = in_range i lt

    place-within : get_or places (get_or wanted i 0) 0 < length wanted
    place-within = h.there (get_or wanted i 0) next-within

    here-within : get_or order i 0 < length wanted
    here-within = h.within i lt

    order-at : (k : ℕ) → get_or order_after k 0 ≡ cond (eqb k (get_or places (get_or wanted i 0) 0)) (get_or order i 0)
        (cond (eqb k i) (get_or wanted i 0) (get_or order k 0))
    order-at k =
        let p = get_or places (get_or wanted i 0) 0 in
        get-swap order i p k 0 (subst (λ m. i < m) (sym h.long) lt) (subst (λ m. p < m) (sym h.long) place-within)
        ∙ ap (λ x. cond (eqb k p) (get_or order i 0) (cond (eqb k i) x (get_or order k 0))) next-stands

    places-at : (x : ℕ) → get_or places_after x 0 ≡ cond (eqb x (get_or wanted i 0)) i
        (cond (eqb x (get_or order i 0)) (get_or places (get_or wanted i 0) 0) (get_or places x 0))
    places-at x =
        let p = get_or places (get_or wanted i 0) 0 in
        let w = get_or wanted i 0 in
        let o = get_or order i 0 in
        get-put (set places o p) w x i (subst (λ m. w < m) (sym (length-set places o p ∙ h.places_long)) next-within)
        ∙ ap (λ y. cond (eqb x w) i y) (get-put places o x p (subst (λ m. o < m) (sym h.places_long) here-within))

    order-here : get_or order_after i 0 ≡ get_or wanted i 0
    order-here =
        order-at i ∙ passed (get_or order i 0) _ (other i (get_or places (get_or wanted i 0) 0) (λ e. moves (sym e)))
        ∙ picked (get_or wanted i 0) (get_or order i 0) (same_number i)

    order-there : get_or order_after (get_or places (get_or wanted i 0) 0) 0 ≡ get_or order i 0
    order-there =
        order-at (get_or places (get_or wanted i 0) 0) ∙ picked (get_or order i 0) _ (same_number (get_or places (get_or wanted i 0) 0))

    order-else : (k : ℕ) → (k ≡ get_or places (get_or wanted i 0) 0 → ⊥) → (k ≡ i → ⊥) → get_or order_after k 0 ≡ get_or order k 0
    order-else k ne mi =
        order-at k ∙ passed (get_or order i 0) _ (other k (get_or places (get_or wanted i 0) 0) ne)
        ∙ passed (get_or wanted i 0) (get_or order k 0) (other k i mi)

    both-within : (b d : Bool) (x y z m : ℕ) → x < m → y < m → z < m → cond b x (cond d y z) < m
    both-within true d x y z m a e f = a
    both-within false true x y z m a e f = e
    both-within false false x y z m a e f = f

    stands-after : (x : ℕ) → x < length wanted → get_or order_after (get_or places_after x 0) 0 ≡ x
    stands-after x less =
        let p = get_or places (get_or wanted i 0) 0 in
        let w = get_or wanted i 0 in
        let o = get_or order i 0 in
        ap (λ k. get_or order_after k 0) (places-at x)
        ∙ elim (eqb x w) as (λ b. eqb x w ≡ b → get_or order_after (cond b i (cond (eqb x o) p (get_or places x 0))) 0 ≡ x) [
          | true ↦ λ t. order-here ∙ sym (eqb-true x w t)
          | false ↦ λ t. elim (eqb x o) as (λ b. eqb x o ≡ b → get_or order_after (cond b p (get_or places x 0)) 0 ≡ x) [
            | true ↦ λ u. order-there ∙ sym (eqb-true x o u)
            | false ↦ λ u.
                let is = h.stands x less in
                order-else (get_or places x 0)
                (λ e. true≢false (sym (ap (λ y. eqb y w) (sym is ∙ ap (λ k. get_or order k 0) e ∙ next-stands) ∙ same_number w) ∙ t))
                (λ e. true≢false (sym (ap (λ y. eqb y o) (sym is ∙ ap (λ k. get_or order k 0) e) ∙ same_number o) ∙ u))
                ∙ is
          ] refl
        ] refl

    done-after : (k : ℕ) → k < i + 1 → get_or order_after k 0 ≡ get_or wanted k 0
    done-after k less =
        elim (eqb k i) as (λ b. eqb k i ≡ b → get_or order_after k 0 ≡ get_or wanted k 0) [
          | true ↦ λ t. let same = eqb-true k i t in ap (λ j. get_or order_after j 0) same ∙ order-here ∙ ap (λ j. get_or wanted j 0) (sym same)
          | false ↦ λ t.
              let before : k < i = grind (arith, nat_tests) in
              order-else k
              (λ e. apart k i before lt (sym (h.done k before) ∙ ap (λ j. get_or order j 0) e ∙ next-stands))
              (λ e. absurd (omega arith))
              ∙ h.done k before
        ] refl

    -- where all is as wanted nothing stands elsewhere
    never : wanted ≡ range_with_len 0 (length wanted) → ⊥
    never e =
        let n = length wanted in
        let p = get_or places (get_or wanted i 0) 0 in
        let order_is : order ≡ range_with_len 0 n = h.made ∙ ap (reordered (range_with_len 0 n)) (h.idle e) in
        let place_is : get_or order p 0 ≡ p = ap (λ ys. get_or ys p 0) order_is ∙ get_or-range_with_len 0 n p 0 place-within ∙ omega arith in
        let wanted_is : get_or wanted i 0 ≡ i = ap (λ ys. get_or ys i 0) e ∙ get_or-range_with_len 0 n i 0 lt ∙ omega arith in
        moves (sym place_is ∙ next-stands ∙ wanted_is)

    -- with one exchange more, what is wanted stands at one place more
    pub exchanging-step : (order2 places2 : List ℕ) (swaps2 : List (ℕ × ℕ)) → order2 ≡ order_after → places2 ≡ places_after
        → swaps2 ≡ swaps ++ (i, get_or places (get_or wanted i 0) 0) ∷ [] → IsExchanging wanted (i + 1) order2 places2 swaps2
    exchanging-step order2 places2 swaps2 o p s =
        let q = get_or places (get_or wanted i 0) 0 in
        record {
          made = o ∙ ap (λ ys. swap ys i q) h.made ∙ sym (reordered-push (range_with_len 0 (length wanted)) swaps (i, q))
              ∙ ap (reordered (range_with_len 0 (length wanted))) (sym s);
          range = subst (SwapsInRange (length wanted)) (sym s) (range-append (length wanted) swaps ((i, q) ∷ []) h.range (lt, place-within, tt));
          long = ap length o ∙ length-swap order i q ∙ h.long;
          places_long = ap length p ∙ length-set (set places (get_or order i 0) q) (get_or wanted i 0) i ∙ length-set places (get_or order i 0) q
              ∙ h.places_long;
          within = λ k less. subst (λ x. x < length wanted) (sym (ap (λ xs. get_or xs k 0) o ∙ order-at k))
              (both-within _ _ _ _ _ _ here-within next-within (h.within k less));
          there = λ x less. subst (λ y. y < length wanted) (sym (ap (λ xs. get_or xs x 0) p ∙ places-at x))
              (both-within _ _ _ _ _ _ lt place-within (h.there x less));
          stands = λ x less. (λ t. get_or (o t) (get_or (p t) x 0) 0) ∙ stands-after x less;
          done = λ k less. ap (λ xs. get_or xs k 0) o ∙ done-after k less;
          few = let so_far = h.few in let long = ap length s ∙ length-append swaps ((i, q) ∷ []) in omega arith;
          idle = λ e. absurd (never e);
        }

-- at last the exchanges have made the wanted order
pub exchanging-all : (wanted : List ℕ) (i : ℕ) (order places : List ℕ) (swaps : List (ℕ × ℕ)) → length wanted ≤ i → IsExchanging wanted i order places swaps
    → reordered (range_with_len 0 (length wanted)) swaps ≡ wanted
exchanging-all wanted i order places swaps le h = sym h.made ∙ ext_get_or 0 order wanted h.long (λ k lt. h.done k (let long = h.long in omega arith))
