-- A binary search among names that rise, and what is found, put in and taken out at its place.
use Rattle.std.proofs.Common.{◌≡◌, ℕ, zero, suc, ◌+◌, ◌<◌, ◌≤◌, List, [], ◌∷◌, Bool, true, false, true≢false, cond, drop, length, get_or, slice_index_or, Some, None, Result, Ok, Err, Ordering, Less, Equal, Greater, refl, sym, ap, subst, ◌∙◌, ⊎_elim, arith, string_bytes, string_cmp, nat_cmp}
use Rattle.std.proofs.lemmas.Bool.{cases_lt}
use Rattle.std.proofs.lemmas.Cmp.{nat_list_cmp_total}
use Rattle.std.proofs.lemmas.Map.Keys.{Less-from_sorted, sorted_tail}
use Rattle.std.proofs.lemmas.Map.Entries.{length-keys_of, lookup_head, lookup_tail}
use Rattle.std.proofs.lemmas.List.{drop_more, get_or-map, get_or_default}
use Rattle.std.proofs.lemmas.Option.{none-some}
use Rattle.std.specs.BTreeMap.{insert_entry, is_at}
use Rattle.std.specs.Cmp.Lexicographic.{slice_cmp}
use Rattle.std.specs.List.{insert, remove, slice_set}
use Rattle.std.specs.List.Sorted.{IsBinarySearchResult}
use Rattle.std.specs.Map.{keys_of, lookup, remove_entry, set_value}
use Rattle.std.specs.Ordering.{is_eq, ordering_index, ordering_reverse}
use Rattle.std.specs.Result.{MatchResult}
use Rattle.ssa_members.specs.Members.{Name, Members, text_cmp, IsRising, IsNameAt, IsGapFor, IsPlaceOf}

-- what stands behind bs or at it is followed by what stands behind bs
index_up : (bs : List ℕ) (f g : Name) (o : Ordering) → slice_cmp nat_cmp (string_bytes f) bs ≡ o → string_cmp f g ≡ Less
    → ordering_index o ≤ ordering_index (slice_cmp nat_cmp (string_bytes g) bs)
index_up bs f g Less a b = omega arith
index_up bs f g Equal a b =
    let same : slice_cmp nat_cmp (string_bytes f) (string_bytes g) ≡ slice_cmp nat_cmp bs (string_bytes g) = nat_list_cmp_total.congr (string_bytes f) bs (string_bytes g) a in
    let above : slice_cmp nat_cmp (string_bytes g) bs ≡ Greater = nat_list_cmp_total.antisymm (string_bytes g) bs ∙ ap ordering_reverse (sym same ∙ b) in
    rw above (omega arith)
index_up bs f g Greater a b =
    let less : slice_cmp nat_cmp bs (string_bytes f) ≡ Less = nat_list_cmp_total.antisymm bs (string_bytes f) ∙ ap ordering_reverse a in
    let above : slice_cmp nat_cmp (string_bytes g) bs ≡ Greater =
    nat_list_cmp_total.antisymm (string_bytes g) bs ∙ ap ordering_reverse (nat_list_cmp_total.trans bs (string_bytes f) (string_bytes g) less b) in
    rw above (omega arith)

other_way : (bs : List ℕ) (k : Name) (o : Ordering) → slice_cmp nat_cmp (string_bytes k) bs ≡ o → text_cmp bs k ≡ ordering_reverse o
other_way bs k o h = nat_list_cmp_total.antisymm bs (string_bytes k) ∙ ap ordering_reverse h

-- a name below that of these bytes is below them
below-same : (bs : List ℕ) (f k : Name) → string_cmp f k ≡ Less → text_cmp bs k ≡ Equal → text_cmp bs f ≡ Greater
below-same bs f k less same =
    nat_list_cmp_total.congr bs (string_bytes k) (string_bytes f) same ∙ nat_list_cmp_total.antisymm (string_bytes k) (string_bytes f) ∙ ap ordering_reverse less

told_same : (o : Ordering) → is_eq o ≡ true → o ≡ Equal
told_same Less told = absurd (true≢false (sym told))
told_same Equal told = refl
told_same Greater told = absurd (true≢false (sym told))

module _ {X : Type 0} where
  -- what is found from an entry on: its value, where the name is its, else what is found behind it
  pub found-from : (bs : List ℕ) (es : List (Name × X)) (i : ℕ) (e : Name × X) (here : Bool) → i < length es → e ≡ slice_index_or es i e
      → is_at (text_cmp bs) e.0 ≡ here
      → lookup (is_at (text_cmp bs)) (drop i es) ≡ cond here (Some e.1) (lookup (is_at (text_cmp bs)) (drop (i + 1) es))
  found-from bs es i e here within is told =
      ap (lookup (is_at (text_cmp bs))) (drop_more es i e within ∙ ap (λ d. d ∷ drop (i + 1) es) (sym is))
      ∙ ap (λ b. cond b (Some e.1) (lookup (is_at (text_cmp bs)) (drop (i + 1) es))) told

  -- a name that compares as the same stands where it is read
  pub name-read : (bs : List ℕ) (es : List (Name × X)) (i : ℕ) (d : Name × X) → i < length es → d ≡ slice_index_or es i d → is_at (text_cmp bs) d.0 ≡ true
      → IsNameAt bs es i
  name-read bs es i d lt is told = record {
    within = lt;
    same = λ e. ap (λ x. text_cmp bs x.0) (get_or_default es i e d lt ∙ sym is) ∙ told_same (text_cmp bs d.0) told;
  }

  -- where nothing is found, nothing is taken out
  pub absent-stays : (bs : List ℕ) (es : List (Name × X)) → lookup (is_at (text_cmp bs)) es ≡ None → remove_entry (is_at (text_cmp bs)) es ≡ es
  absent-stays bs [] none = refl
  absent-stays bs (e ∷ es) none = by (is_at (text_cmp bs) e.0) none (absent-stays bs es)
    where
      by : (b : Bool) → cond b (Some e.1) (lookup (is_at (text_cmp bs)) es) ≡ None → (lookup (is_at (text_cmp bs)) es ≡ None → remove_entry (is_at (text_cmp bs)) es ≡ es)
          → cond b es (e ∷ remove_entry (is_at (text_cmp bs)) es) ≡ e ∷ es
      by true h rest = absurd (none-some e.1 (sym h))
      by false h rest = ap (λ l. e ∷ l) (rest h)

  -- how the name of an entry compares with these bytes
  abbrev pub compared : List ℕ → Name × X → Ordering
  compared bs e = slice_cmp nat_cmp (string_bytes e.0) bs

  -- among names that rise each is below those behind it
  less-at : (es : List (Name × X)) (i j : ℕ) (d : Name × X) → IsRising es → i < j → j < length es → string_cmp (get_or es i d).0 (get_or es j d).0 ≡ Less
  less-at es i j d h lt within =
      let rises = Less-from_sorted string_cmp (keys_of es) i j d.0 h lt (rw (length-keys_of es) within) in
      let first = get_or-map (λ e. e.0) es i d d.0 (omega arith) in
      let second = get_or-map (λ e. e.0) es j d d.0 within in
      rw (first, second) at rises

  compared-rises : (bs : List ℕ) (es : List (Name × X)) → IsRising es → (i j : ℕ) (d : Name × X) → i ≤ j → j < length es
      → ordering_index (compared bs (get_or es i d)) ≤ ordering_index (compared bs (get_or es j d))
  compared-rises bs es h i j d le within = ⊎_elim
      (λ lt. index_up bs (get_or es i d).0 (get_or es j d).0 _ refl (less-at es i j d h lt within))
      (λ (ge : j ≤ i). let same : i ≡ j = omega arith in rw same (omega arith))
      (cases_lt i j)

  -- what a binary search among names that rise answers is the name's place
  pub place-found : (bs : List ℕ) (es : List (Name × X)) (r : Result ℕ ℕ) → IsRising es → MatchResult r (λ i. i < length es) (λ i. i ≤ length es)
      → IsBinarySearchResult (compared bs) es r → IsPlaceOf bs es r
  place-found bs es (Ok i) h bound found = record { within = bound; same = λ e. other_way bs (get_or es i e).0 Equal (found e) }
  place-found bs es (Err i) h bound found =
      let parts = found (compared-rises bs es h) in
      record {
        within = bound;
        below = λ j e lt. other_way bs (get_or es j e).0 Less (parts.0 j e (omega arith) lt);
        above = λ j e le lt. other_way bs (get_or es j e).0 Greater (parts.1 j e le lt);
      }

  -- ---- the place in the vector of a value, by the bytes of a name

  pub name-inside : (es : List (Name × X)) (m : Members X) (bs cs : List ℕ) (i : ℕ) → record { entries = es } ≡ m → bs ≡ cs → IsNameAt bs m.entries i → IsNameAt cs es i
  name-inside es m bs cs i seen same h = subst (λ bs. IsNameAt bs es i) same (subst (λ m. IsNameAt bs m.entries i) (sym seen) h)

  pub gap-inside : (es : List (Name × X)) (m : Members X) (bs cs : List ℕ) (i : ℕ) → record { entries = es } ≡ m → bs ≡ cs → IsGapFor bs m.entries i → IsGapFor cs es i
  gap-inside es m bs cs i seen same h = subst (λ bs. IsGapFor bs es i) same (subst (λ m. IsGapFor bs m.entries i) (sym seen) h)

  -- ---- the same place among those behind the first

  name-behind : (bs : List ℕ) (e : Name × X) (es : List (Name × X)) (i : ℕ) → IsNameAt bs (e ∷ es) (suc i) → IsNameAt bs es i
  name-behind bs e es i h = record { within = (let a = h.within in omega arith); same = h.same }

  gap-behind : (bs : List ℕ) (e : Name × X) (es : List (Name × X)) (i : ℕ) → IsGapFor bs (e ∷ es) (suc i) → IsGapFor bs es i
  gap-behind bs e es i h = record {
    within = (let a = h.within in omega arith);
    below = λ j d lt. h.below (suc j) d (omega arith);
    above = λ j d le lt. h.above (suc j) d (omega arith) (omega arith);
  }

  gap-after-first : (bs : List ℕ) (e : Name × X) (es : List (Name × X)) → IsGapFor bs (e ∷ es) 0 → IsGapFor bs es 0
  gap-after-first bs e es h = record {
    within = omega arith;
    below = λ j d lt. absurd (omega arith);
    above = λ j d le lt. h.above (suc j) d (omega arith) (omega arith);
  }

  -- the first name is below that of a later place
  first-below : (bs : List ℕ) (e : Name × X) (es : List (Name × X)) (i : ℕ) → IsRising (e ∷ es) → IsNameAt bs (e ∷ es) (suc i) → text_cmp bs e.0 ≡ Greater
  first-below bs e es i rise h =
      let within = h.within in
      below-same bs e.0 (get_or (e ∷ es) (suc i) e).0 (less-at (e ∷ es) 0 (suc i) e rise (omega arith) within) (h.same e)

  first-below-gap : (bs : List ℕ) (e : Name × X) (es : List (Name × X)) (i : ℕ) → IsGapFor bs (e ∷ es) (suc i) → text_cmp bs e.0 ≡ Greater
  first-below-gap bs e es i h = h.below 0 e (omega arith)

  first-above-gap : (bs : List ℕ) (e : Name × X) (es : List (Name × X)) → IsGapFor bs (e ∷ es) 0 → text_cmp bs e.0 ≡ Less
  first-above-gap bs e es h = h.above 0 e (omega arith) (omega arith)

  -- ---- what is found

  pub value-found : (bs : List ℕ) (es : List (Name × X)) (i : ℕ) (d : Name × X) → IsRising es → IsNameAt bs es i
      → lookup (is_at (text_cmp bs)) es ≡ Some (get_or es i d).1
  value-found bs [] i d rise h = let within = h.within in absurd (omega arith)
  value-found bs (e ∷ es) zero d rise h = lookup_head (is_at (text_cmp bs)) e es (ap is_eq (h.same d))
  value-found bs (e ∷ es) (suc i) d rise h =
      lookup_tail (is_at (text_cmp bs)) e es (ap is_eq (first-below bs e es i rise h))
      ∙ value-found bs es i d (sorted_tail string_cmp e.0 (keys_of es) rise) (name-behind bs e es i h)

  pub value-absent : (bs : List ℕ) (es : List (Name × X)) (i : ℕ) → IsGapFor bs es i → lookup (is_at (text_cmp bs)) es ≡ None
  value-absent bs [] i h = refl
  value-absent bs (e ∷ es) zero h =
      lookup_tail (is_at (text_cmp bs)) e es (ap is_eq (first-above-gap bs e es h)) ∙ value-absent bs es zero (gap-after-first bs e es h)
  value-absent bs (e ∷ es) (suc i) h =
      lookup_tail (is_at (text_cmp bs)) e es (ap is_eq (first-below-gap bs e es i h)) ∙ value-absent bs es i (gap-behind bs e es i h)

  -- ---- what is put in, exchanged and taken out

  pub put-in : (es : List (Name × X)) (i : ℕ) (k : Name) (v : X) → IsGapFor (string_bytes k) es i → insert_entry string_cmp es k v ≡ insert es i (k, v)
  put-in [] zero k v h = refl
  put-in [] (suc i) k v h = refl
  put-in (e ∷ es) zero k v h = rw (first-above-gap (string_bytes k) e es h) refl
  put-in (e ∷ es) (suc i) k v h = rw (first-below-gap (string_bytes k) e es i h) (ap (λ l. e ∷ l) (put-in es i k v (gap-behind (string_bytes k) e es i h)))

  pub put-over : (es : List (Name × X)) (i : ℕ) (k : Name) (v : X) (d : Name × X) → IsRising es → IsNameAt (string_bytes k) es i
      → insert_entry string_cmp es k v ≡ slice_set es i ((get_or es i d).0, v)
  put-over [] i k v d rise h = let within = h.within in absurd (omega arith)
  put-over (e ∷ es) zero k v d rise h = rw (h.same d) refl
  put-over (e ∷ es) (suc i) k v d rise h =
      rw (first-below (string_bytes k) e es i rise h)
      (ap (λ l. e ∷ l) (put-over es i k v d (sorted_tail string_cmp e.0 (keys_of es) rise) (name-behind (string_bytes k) e es i h)))

  pub exchanged : (bs : List ℕ) (es : List (Name × X)) (i : ℕ) (v : X) (d : Name × X) → IsRising es → IsNameAt bs es i
      → set_value (is_at (text_cmp bs)) es v ≡ slice_set es i ((get_or es i d).0, v)
  exchanged bs [] i v d rise h = let within = h.within in absurd (omega arith)
  exchanged bs (e ∷ es) zero v d rise h = rw (h.same d) refl
  exchanged bs (e ∷ es) (suc i) v d rise h =
      rw (first-below bs e es i rise h)
      (ap (λ l. e ∷ l) (exchanged bs es i v d (sorted_tail string_cmp e.0 (keys_of es) rise) (name-behind bs e es i h)))

  pub taken-out : (bs : List ℕ) (es : List (Name × X)) (i : ℕ) (d : Name × X) → IsRising es → IsNameAt bs es i
      → remove_entry (is_at (text_cmp bs)) es ≡ remove es i
  taken-out bs [] i d rise h = let within = h.within in absurd (omega arith)
  taken-out bs (e ∷ es) zero d rise h = rw (h.same d) refl
  taken-out bs (e ∷ es) (suc i) d rise h =
      rw (first-below bs e es i rise h)
      (ap (λ l. e ∷ l) (taken-out bs es i d (sorted_tail string_cmp e.0 (keys_of es) rise) (name-behind bs e es i h)))

  pub not-there : (bs : List ℕ) (es : List (Name × X)) (i : ℕ) → IsGapFor bs es i → remove_entry (is_at (text_cmp bs)) es ≡ es
  not-there bs [] i h = refl
  not-there bs (e ∷ es) zero h = rw (first-above-gap bs e es h) (ap (λ l. e ∷ l) (not-there bs es zero (gap-after-first bs e es h)))
  not-there bs (e ∷ es) (suc i) h = rw (first-below-gap bs e es i h) (ap (λ l. e ∷ l) (not-there bs es i (gap-behind bs e es i h)))
