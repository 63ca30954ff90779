-- Places that are told as they rise: what stays stands as wanted, and nothing is exchanged.
use Rattle.std.proofs.Common.{◌≡◌, ℕ, suc, ◌+◌, ◌<◌, ◌≤◌, List, [], ◌∷◌, ◌++◌, length, take, true, false, ◌||◌, eqb, Option, Some, None, refl, sym, ap, subst, ◌∙◌, arith, true≢false}
use Rattle.std.specs.List.{range_with_len}
use Rattle.std.proofs.lemmas.Bool.{eqb-true}
use Rattle.std.proofs.lemmas.Bool.Decides.{nat_tests}
use Rattle.std.proofs.lemmas.List.{take_all}
use Rattle.std.specs.List.Sorted.{SwapsInRange}
use Rattle.ssa_turn_body.specs.Found.{filled, is_in, is_told, somes, IsReordering, IsTurnedRound}
use Rattle.ssa_turn_body.specs.Orders.{reordered}
use Rattle.ssa_turn_body.specs.Woven.{ArePlaces}
use Rattle.ssa_turn_body.proofs.Matching.{length-filled}
use Rattle.ssa_model.proofs.Basics.{first_false}

abbrev Found : Type 0
Found = List (Option ℕ)

-- places below a number are below each greater one
pub places-up-to : (ps : List ℕ) (k m n : ℕ) → ArePlaces k ps m → m ≤ n → ArePlaces k ps n
places-up-to [] k m n h le = omega arith
places-up-to (p ∷ ps) k m n h le = (h.0, places-up-to ps (p + 1) m n h.1 le)

-- a place behind all others is one more
pub places-push : (ps : List ℕ) (k m x : ℕ) → ArePlaces k ps m → m ≤ x → ArePlaces k (ps ++ x ∷ []) (x + 1)
places-push [] k m x h le = (omega arith, omega arith)
places-push (p ∷ ps) k m x h le = (h.0, places-push ps (p + 1) m x h.1 le)

-- places told of the first ones are told of all, where there are no more
pub told-all : (fs : Found) (i m n : ℕ) → length fs ≤ i → ArePlaces 0 (somes (take i fs)) m → m ≤ n → ArePlaces 0 (somes fs) n
told-all fs i m n all h le = subst (λ xs. ArePlaces 0 (somes xs) n) (take_all i fs all) (places-up-to (somes (take i fs)) 0 m n h le)

-- a number below all places is none of them
places-above : (ps : List ℕ) (k n x : ℕ) → ArePlaces k ps n → x < k → is_in x ps ≡ false
places-above [] k n x h lt = refl
places-above (p ∷ ps) k n x h lt =
    let le = h.0 in
    let other : eqb x p ≡ false = grind (arith, nat_tests) in
    ap (λ b. b || is_in x ps) other ∙ places-above ps (p + 1) n x h.1 (omega arith)

places-past : (os : List ℕ) (k n : ℕ) → ArePlaces k os n → k < n → is_in k os ≡ false → ArePlaces (k + 1) os n
places-past [] k n h lt none = omega arith
places-past (p ∷ ps) k n h lt none =
    let le = h.0 in
    let other : eqb k p ≡ false = first_false (eqb k p) _ none in
    let past : k + 1 ≤ p = grind (arith, nat_tests) in
    (past, h.1)

first-is : (p : ℕ) (ps : List ℕ) (k n : ℕ) → ArePlaces k (p ∷ ps) n → is_in k (p ∷ ps) ≡ true → p ≡ k
first-is p ps k n h there =
    elim (eqb k p) as (λ b. eqb k p ≡ b → (b || is_in k ps) ≡ true → p ≡ k) [
      | true ↦ λ t u. sym (eqb-true k p t)
      | false ↦ λ t u. let le = h.0 in absurd (true≢false (sym u ∙ places-above ps (p + 1) n k h.1 (omega arith)))
    ] refl there

rest-told : (p : ℕ) (ps : List ℕ) (j : ℕ) (back : Found) (k : ℕ) → p ≡ k → ((x : ℕ) → is_told (Some j ∷ back) x ≡ is_in (k + x) (p ∷ ps))
    → (x : ℕ) → is_told back x ≡ is_in (k + 1 + x) ps
rest-told p ps j back k is told x =
    let e : k + suc x ≡ k + 1 + x = omega arith in
    let other : eqb (k + 1 + x) p ≡ false = grind (arith, nat_tests) in
    told (suc x) ∙ ap (λ y. is_in y (p ∷ ps)) e ∙ ap (λ b. b || is_in (k + 1 + x) ps) other

further : (b : Option ℕ) (back : Found) (os : List ℕ) (k : ℕ) → ((x : ℕ) → is_told (b ∷ back) x ≡ is_in (k + x) os)
    → (x : ℕ) → is_told back x ≡ is_in (k + 1 + x) os
further b back os k told x = let e : k + suc x ≡ k + 1 + x = omega arith in told (suc x) ∙ ap (λ y. is_in y os) e

-- where the places rise, what is wanted at each place stands there
filled-rising : (back : Found) (os : List ℕ) (k n : ℕ) → k + length back ≡ n → ((x : ℕ) → is_told back x ≡ is_in (k + x) os) → ArePlaces k os n
    → filled k back os ≡ range_with_len k (length back)
filled-rising [] os k n long told h = refl
filled-rising (None ∷ back) os k n long told h =
    let e : k ≡ k + 0 = omega arith in
    let none : is_in k os ≡ false = ap (λ y. is_in y os) e ∙ sym (told 0) in
    ap (λ xs. k ∷ xs) (filled-rising back os (k + 1) n (omega arith) (further None back os k told) (places-past os k n h (omega arith) none))
filled-rising (Some j ∷ back) [] k n long told h = absurd (true≢false (told 0))
filled-rising (Some j ∷ back) (p ∷ ps) k n long told h =
    let e : k ≡ k + 0 = omega arith in
    let there : is_in k (p ∷ ps) ≡ true = ap (λ y. is_in y (p ∷ ps)) e ∙ sym (told 0) in
    let is = first-is p ps k n h there in
    let next : ArePlaces (k + 1) ps n = subst (λ m. ArePlaces (m + 1) ps n) is h.1 in
    λ i. is i ∷ filled-rising back ps (k + 1) n (omega arith) (rest-told p ps j back k is told) next i

-- where the places that are told rise, all stands as wanted
pub wanted-rising : (n : ℕ) (fs back : Found) → IsTurnedRound n fs back → ArePlaces 0 (somes fs) n → filled 0 back (somes fs) ≡ range_with_len 0 (length back)
wanted-rising n fs back h rise =
    let long : 0 + length back ≡ n = let e = h.long in omega arith in
    filled-rising back (somes fs) 0 n long (λ x. let e : x ≡ 0 + x = omega arith in h.there x ∙ ap (λ y. is_in y (somes fs)) e) rise

-- where the places that are told rise, no exchanges bring what stays into its order
pub reordering-none : (fs back : Found) (swaps : List (ℕ × ℕ)) → IsTurnedRound (length back) fs back → ArePlaces 0 (somes fs) (length back) → swaps ≡ []
    → IsReordering fs back swaps
reordering-none fs back swaps h rise none = record {
  range = subst (SwapsInRange (length back)) (sym none) tt;
  order = ap (reordered (range_with_len 0 (length back))) none ∙ sym (wanted-rising (length back) fs back h rise);
  none = λ e. none;
  few = let long = ap length none in omega arith;
}

-- exchanges that make what is wanted bring what stays into its order
pub reordering-made : (fs back : Found) (wanted : List ℕ) (swaps : List (ℕ × ℕ)) → wanted ≡ filled 0 back (somes fs) → SwapsInRange (length wanted) swaps
    → length swaps ≤ length wanted → (wanted ≡ range_with_len 0 (length wanted) → swaps ≡ []) → reordered (range_with_len 0 (length wanted)) swaps ≡ wanted → IsReordering fs back swaps
reordering-made fs back wanted swaps is range few none order =
    let long = ap length is ∙ length-filled back 0 (somes fs) in
    record {
      range = subst (λ n. SwapsInRange n swaps) long range;
      order = ap (λ n. reordered (range_with_len 0 n) swaps) (sym long) ∙ order ∙ is;
      none = λ e. none (is ∙ e ∙ ap (range_with_len 0) (sym long));
      few = subst (λ n. length swaps ≤ n) long few;
    }
