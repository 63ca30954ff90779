-- Members that come in the order of their names.
use Rattle.std.proofs.Common.{◌≡◌, ℕ, List, [], ◌∷◌, ◌++◌, map, String, Global, Less, Greater, string_bytes, string_cmp, nat_cmp, refl, sym, ap, subst, ◌∙◌}
use Rattle.std.proofs.lemmas.Cmp.{nat_list_cmp_total}
use Rattle.std.specs.Cmp.Lexicographic.{slice_cmp}
use Rattle.std.specs.List.{AllByRecursion}
use Rattle.std.specs.List.Sorted.{IsStrictlySortedBy}
use Rattle.std.specs.Map.{keys_of}
use Rattle.std.specs.Ordering.{ordering_reverse}
use Rattle.std.specs.BTreeMap.{insert_entry}

-- a value of some sort under its name
abbrev pub Named : Type 0 → Type 0
Named V = String Global × V

-- the bytes of the names
abbrev pub names : {V : Type 0} → List (Named V) → List (List ℕ)
names es = map (λ e. string_bytes e.0) es

-- the name is above each of these
abbrev pub IsAbove : List ℕ → List (List ℕ) → Type 0
IsAbove k ns = AllByRecursion (λ n. slice_cmp nat_cmp k n ≡ Greater) ns

module _ {V : Type 0} where
  below_middle : (first : Named V) (es : List (Named V)) (e : Named V) (more : List (Named V))
      → AllByRecursion (λ y. string_cmp first.0 y ≡ Less) (keys_of (es ++ e ∷ more)) → string_cmp first.0 e.0 ≡ Less
  below_middle first [] e more h = h.0
  below_middle first (x ∷ es) e more h = below_middle first es e more h.1

  -- the name of a member is above that of each before it
  pub above_first : (first : Named V) (es : List (Named V)) (e : Named V) (more : List (Named V))
      → AllByRecursion (λ y. string_cmp first.0 y ≡ Less) (keys_of (es ++ e ∷ more)) → slice_cmp nat_cmp (string_bytes e.0) (string_bytes first.0) ≡ Greater
  above_first first es e more h =
      nat_list_cmp_total.antisymm (string_bytes e.0) (string_bytes first.0) ∙ ap ordering_reverse (below_middle first es e more h)

  -- in a sorted map, the name of a member is above all those before it
  pub above_before : (done : List (Named V)) (e : Named V) (more : List (Named V)) → IsStrictlySortedBy string_cmp (keys_of (done ++ e ∷ more))
      → IsAbove (string_bytes e.0) (names done)
  unfolding IsStrictlySortedBy
  above_before [] e more h = tt
  above_before (first ∷ done) e more h = (above_first first done e more h.0, above_before done e more h.1)

  -- a name above all others goes last
  pub insert_entry-last : (es : List (Named V)) (k : String Global) (v : V) → IsAbove (string_bytes k) (names es)
      → insert_entry string_cmp es k v ≡ es ++ (k, v) ∷ []
  insert_entry-last [] k v h = refl
  insert_entry-last (e ∷ es) k v h = rw h.0 (ap (λ t. e ∷ t) (insert_entry-last es k v h.1))

-- the next member goes last, in a map with the names of those before it
pub inserted-last : {V W : Type 0} (done : List (Named V)) (e : Named V) (more : List (Named V)) (found : List (Named W)) (k : String Global) (w : W)
    → IsStrictlySortedBy string_cmp (keys_of (done ++ e ∷ more)) → names found ≡ names done → string_bytes k ≡ string_bytes e.0
    → insert_entry string_cmp found k w ≡ found ++ (k, w) ∷ []
inserted-last done e more found k w sorted same key =
    insert_entry-last found k w (rw (same, key) (above_before done e more sorted))

module _ {V : Type 0} where
  names-below : (k : String Global) (es : List (Named V)) → AllByRecursion (λ y. string_cmp k y ≡ Less) (keys_of es)
      → AllByRecursion (λ n. slice_cmp nat_cmp (string_bytes k) n ≡ Less) (names es)
  names-below k [] h = tt
  names-below k (e ∷ es) h = (h.0, names-below k es h.1)

  below-names : (k : String Global) (es : List (Named V)) → AllByRecursion (λ n. slice_cmp nat_cmp (string_bytes k) n ≡ Less) (names es)
      → AllByRecursion (λ y. string_cmp k y ≡ Less) (keys_of es)
  below-names k [] h = tt
  below-names k (e ∷ es) h = (h.0, below-names k es h.1)

  names-rise : (es : List (Named V)) → IsStrictlySortedBy string_cmp (keys_of es) → IsStrictlySortedBy (slice_cmp nat_cmp) (names es)
  unfolding IsStrictlySortedBy
  names-rise [] h = tt
  names-rise (e ∷ es) h = (names-below e.0 es h.0, names-rise es h.1)

  rise-by-names : (es : List (Named V)) → IsStrictlySortedBy (slice_cmp nat_cmp) (names es) → IsStrictlySortedBy string_cmp (keys_of es)
  unfolding IsStrictlySortedBy
  rise-by-names [] h = tt
  rise-by-names (e ∷ es) h = (below-names e.0 es h.0, rise-by-names es h.1)

-- members with the names of others that rise rise too
pub rising-by-names : {V W : Type 0} (es : List (Named V)) (fs : List (Named W)) → names es ≡ names fs → IsStrictlySortedBy string_cmp (keys_of fs)
    → IsStrictlySortedBy string_cmp (keys_of es)
rising-by-names es fs same rise = rise-by-names es (subst (IsStrictlySortedBy (slice_cmp nat_cmp)) (sym same) (names-rise fs rise))
