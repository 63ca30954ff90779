-- Names that rise, and still do where one comes or goes.
use Rattle.std.proofs.Common.{◌≡◌, ℕ, zero, suc, ◌+◌, ◌<◌, List, [], ◌∷◌, length, get_or, Less, Global, Bool, true, false, refl, sym, ap, subst, ◌∙◌, arith, string_bytes, string_cmp}
use Rattle.std.proofs.lemmas.Cmp.{nat_list_cmp_total}
use Rattle.std.proofs.lemmas.List.{get_or-map}
use Rattle.std.proofs.lemmas.Map.Entries.{length-keys_of}
use Rattle.std.proofs.lemmas.Map.Keys.{sorted_from_all_adjacent}
use Rattle.std.specs.Cmp.{IsTotalOrder}
use Rattle.std.specs.List.{AllByRecursion, insert, remove, slice_set}
use Rattle.std.specs.List.Sorted.{IsStrictlySortedBy}
use Rattle.std.specs.Map.{keys_of}
use Rattle.std.specs.Ordering.{ordering_reverse}
use Rattle.std.specs.Prelude.{if◌then◌else◌}
use Rattle.ssa_members.specs.Members.{Name, text_cmp, IsRising, IsGapFor}

pub name_total : IsTotalOrder (string_cmp {Z = Global})
name_total = record {
  antisymm = λ j k. nat_list_cmp_total.antisymm (string_bytes j) (string_bytes k);
  trans = λ j k l. nat_list_cmp_total.trans (string_bytes j) (string_bytes k) (string_bytes l);
  congr = λ j k l. nat_list_cmp_total.congr (string_bytes j) (string_bytes k) (string_bytes l);
}

module _ {X : Type 0} where
  -- names rise where each is below the next
  pub rising-by-pairs : (es : List (Name × X)) → ((k : ℕ) (e : Name × X) → k + 1 < length es → string_cmp (get_or es k e).0 (get_or es (k + 1) e).0 ≡ Less) → IsRising es
  unfolding IsStrictlySortedBy
  rising-by-pairs [] h = tt
  rising-by-pairs (e ∷ es) h = sorted_from_all_adjacent name_total (keys_of (e ∷ es)) e.0 (λ k lt.
      let within : k + 1 < length (e ∷ es) = (let a = length-keys_of (e ∷ es) in omega arith) in
      let next = h k e within in
      let first = get_or-map (λ e. e.0) (e ∷ es) k e e.0 (omega arith) in
      let second = get_or-map (λ e. e.0) (e ∷ es) (k + 1) e e.0 within in
      rw (sym first, sym second) at next)

  all-put-in : (P : Name → Type 0) (es : List (Name × X)) (i : ℕ) (e : Name × X) → AllByRecursion P (keys_of es) → P e.0 → AllByRecursion P (keys_of (insert es i e))
  all-put-in P [] zero e a p = (p, tt)
  all-put-in P [] (suc i) e a p = (p, tt)
  all-put-in P (d ∷ es) zero e a p = (p, a)
  all-put-in P (d ∷ es) (suc i) e a p = (a.0, all-put-in P es i e a.1 p)

  all-taken-out : (P : Name → Type 0) (es : List (Name × X)) (i : ℕ) → AllByRecursion P (keys_of es) → AllByRecursion P (keys_of (remove es i))
  all-taken-out P [] zero a = tt
  all-taken-out P [] (suc i) a = tt
  all-taken-out P (d ∷ es) zero a = a.1
  all-taken-out P (d ∷ es) (suc i) a = (a.0, all-taken-out P es i a.1)

  all-above : (k : Name) (es : List (Name × X)) → ((j : ℕ) (e : Name × X) → j < length es → text_cmp (string_bytes k) (get_or es j e).0 ≡ Less)
      → AllByRecursion (λ y. string_cmp k y ≡ Less) (keys_of es)
  all-above k [] h = tt
  all-above k (e ∷ es) h = (h 0 e (omega arith), all-above k es (λ j d lt. h (suc j) d (omega arith)))

  pub rising-put-in : (es : List (Name × X)) (i : ℕ) (k : Name) (v : X) → IsRising es → IsGapFor (string_bytes k) es i → IsRising (insert es i (k, v))
  unfolding IsStrictlySortedBy
  rising-put-in [] zero k v rise h = (tt, tt)
  rising-put-in [] (suc i) k v rise h = (tt, tt)
  rising-put-in (e ∷ es) zero k v rise h = (all-above k (e ∷ es) (λ j d lt. h.above j d (omega arith) lt), rise)
  rising-put-in (e ∷ es) (suc i) k v rise h =
      let less : string_cmp e.0 k ≡ Less = nat_list_cmp_total.antisymm (string_bytes e.0) (string_bytes k) ∙ ap ordering_reverse (h.below 0 e (omega arith)) in (
        all-put-in (λ y. string_cmp e.0 y ≡ Less) es i (k, v) rise.0 less,
        rising-put-in es i k v rise.1 (record {
          within = (let a = h.within in omega arith);
          below = λ j d lt. h.below (suc j) d (omega arith);
          above = λ j d le lt. h.above (suc j) d (omega arith) (omega arith);
        }),
      )

  pub rising-taken-out : (es : List (Name × X)) (i : ℕ) → IsRising es → IsRising (remove es i)
  unfolding IsStrictlySortedBy
  rising-taken-out [] zero rise = tt
  rising-taken-out [] (suc i) rise = tt
  rising-taken-out (e ∷ es) zero rise = rise.1
  rising-taken-out (e ∷ es) (suc i) rise = (all-taken-out (λ y. string_cmp e.0 y ≡ Less) es i rise.0, rising-taken-out es i rise.1)

  names-stay : (es : List (Name × X)) (i : ℕ) (v : X) (d : Name × X) → i < length es → keys_of (slice_set es i ((get_or es i d).0, v)) ≡ keys_of es
  names-stay [] i v d lt = absurd (omega arith)
  names-stay (e ∷ es) zero v d lt = refl
  names-stay (e ∷ es) (suc i) v d lt = ap (λ l. e.0 ∷ l) (names-stay es i v d (omega arith))

  pub rising-exchanged : (es : List (Name × X)) (i : ℕ) (v : X) (d : Name × X) → i < length es → IsRising es → IsRising (slice_set es i ((get_or es i d).0, v))
  rising-exchanged es i v d lt rise = subst (IsStrictlySortedBy string_cmp) (sym (names-stay es i v d lt)) rise

  -- names rise whether they were put in or not
  pub rising-either : (b : Bool) (es fs : List (Name × X)) → IsRising fs → IsRising es → IsRising (if b then fs else es)
  rising-either true es fs put rise = put
  rising-either false es fs put rise = rise
