-- A binary search among values whose paths rise.
use Rattle.std.proofs.Common.{◌≡◌, ℕ, zero, suc, ◌<◌, ◌≤◌, List, [], ◌∷◌, length, get_or, map, true, false, cond, Some, None, Result, Ok, Err, Ordering, Less, Equal, Greater, refl, sym, ap, ◌∙◌, arith}
use Rattle.std.specs.Cmp.{first_so, second_so}
use Rattle.std.specs.FinMap.Entries.{below_all, is_sorted}
use Rattle.std.specs.List.Sorted.{IsBinarySearchResult}
use Rattle.std.specs.Ordering.{is_eq, is_lt, ordering_index, ordering_reverse}
use Rattle.std.specs.Result.{MatchResult}
use Rattle.ssa_model.specs.definitions.Path.{Path, path_cmp, path_cmp_total, same_path}
use Rattle.ssa_model.specs.definitions.PathMap.{from_entries}
use Rattle.ssa_model.proofs.Tests.{holds}
use Rattle.ssa_model.proofs.Texts.{same_path_same}
use Rattle.ssa_path.specs.TopPaths.{lent_path}
use Rattle.ssa_path.specs.declared.top_path.LentPath.{LentPath}
use Rattle.ssa_record.specs.PathOrder.{by_lent_path, lent_rise, value_at, IsPathSearch}
use Rattle.ssa_record.proofs.ByPaths.{shown, shown-sorted}
use Rattle.ssa_model.proofs.Basics.{lower}

-- what stands behind a path or at it is followed by what stands behind it
index_up : (e f g : Path) (o : Ordering) → path_cmp f e ≡ o → path_cmp f g ≡ Less → ordering_index o ≤ ordering_index (path_cmp g e)
index_up e f g Less a b = omega arith
index_up e f g Equal a b =
    let same : f ≡ e = same_path_same f e a in
    let above : path_cmp g e ≡ Greater = path_cmp_total.antisymm g e ∙ ap ordering_reverse (ap (λ x. path_cmp x g) (sym same) ∙ b) in
    rw above (omega arith)
index_up e f g Greater a b =
    let less : path_cmp e f ≡ Less = path_cmp_total.antisymm e f ∙ ap ordering_reverse a in
    let above : path_cmp g e ≡ Greater = path_cmp_total.antisymm g e ∙ ap ordering_reverse (path_cmp_total.trans e f g less b) in
    rw above (omega arith)

-- a path that compares with another is not the same from the other side
other_way : (q x : Path) (o : Ordering) → path_cmp x q ≡ o → path_cmp q x ≡ ordering_reverse o
other_way q x o h = path_cmp_total.antisymm q x ∙ ap ordering_reverse h

module _ {V : Type 0} where
  -- how an entry's path compares with the path that is looked for
  abbrev pub compared : Path → LentPath × V → Ordering
  compared q e = path_cmp (lent_path e.0) q

  abbrev keys : List (LentPath × V) → List (Path × Unit {0})
  keys = map (λ e. (lent_path e.0, tt))

  below-at : (x : Path) (es : List (LentPath × V)) (j : ℕ) (d : LentPath × V) → j < length es → below_all path_cmp x (keys es) ≡ true
      → path_cmp x (lent_path (get_or es j d).0) ≡ Less
  below-at x [] j d lt h = absurd (omega arith)
  below-at x (e ∷ es) zero d lt h = lower _ (first_so (is_lt (path_cmp x (lent_path e.0))) (below_all path_cmp x (keys es)) h)
  below-at x (e ∷ es) (suc j) d lt h = below-at x es j d (omega arith) (second_so (is_lt (path_cmp x (lent_path e.0))) (below_all path_cmp x (keys es)) h)

  compared-rises : (q : Path) (es : List (LentPath × V)) → lent_rise es ≡ true → (i j : ℕ) (d : LentPath × V) → i ≤ j → j < length es
      → ordering_index (compared q (get_or es i d)) ≤ ordering_index (compared q (get_or es j d))
  compared-rises q [] h i j d le lt = absurd (omega arith)
  compared-rises q (e ∷ es) h zero zero d le lt = omega arith
  compared-rises q (e ∷ es) h zero (suc j) d le lt =
      index_up q (lent_path e.0) (lent_path (get_or es j d).0) _ refl
      (below-at (lent_path e.0) es j d (omega arith) (first_so (below_all path_cmp (lent_path e.0) (keys es)) (lent_rise es) h))
  compared-rises q (e ∷ es) h (suc i) zero d le lt = absurd (omega arith)
  compared-rises q (e ∷ es) h (suc i) (suc j) d le lt =
      compared-rises q es (second_so (below_all path_cmp (lent_path e.0) (keys es)) (lent_rise es) h) i j d (omega arith) (omega arith)

  passed : (q : Path) (e : LentPath × V) (es : List (LentPath × V)) → same_path q (lent_path e.0) ≡ false → value_at q (e ∷ es) ≡ value_at q es
  passed q e es off = ap (λ b. cond b (Some e.1) (value_at q es)) off

  found-at : (q : Path) (es : List (LentPath × V)) (i : ℕ) (d : LentPath × V) → lent_rise es ≡ true → i < length es → compared q (get_or es i d) ≡ Equal
      → value_at q es ≡ Some (get_or es i d).1
  found-at q [] i d h lt is = absurd (omega arith)
  found-at q (e ∷ es) zero d h lt is = ap (λ b. cond b (Some e.1) (value_at q es)) (ap is_eq (other_way q (lent_path e.0) Equal is))
  found-at q (e ∷ es) (suc i) d h lt is =
      let x = lent_path (get_or es i d).0 in
      let less : path_cmp (lent_path e.0) q ≡ Less =
      ap (path_cmp (lent_path e.0)) (sym (same_path_same x q is))
      ∙ below-at (lent_path e.0) es i d (omega arith) (first_so (below_all path_cmp (lent_path e.0) (keys es)) (lent_rise es) h) in
      passed q e es (ap is_eq (other_way q (lent_path e.0) Less less))
      ∙ found-at q es i d (second_so (below_all path_cmp (lent_path e.0) (keys es)) (lent_rise es) h) (omega arith) is

  -- each of the first is below the path, and each of the others above
  absent-between : (q : Path) (es : List (LentPath × V)) (i : ℕ) → ((k : ℕ) (d : LentPath × V) → k < i → k < length es → compared q (get_or es k d) ≡ Less)
      → ((k : ℕ) (d : LentPath × V) → i ≤ k → k < length es → compared q (get_or es k d) ≡ Greater) → value_at q es ≡ None
  absent-between q [] i lows highs = refl
  absent-between q (e ∷ es) zero lows highs =
      passed q e es (ap is_eq (other_way q (lent_path e.0) Greater (highs 0 e (omega arith) (omega arith))))
      ∙ absent-between q es zero (λ k d lt in_range. absurd (omega arith)) (λ k d le in_range. highs (suc k) d (omega arith) (omega arith))
  absent-between q (e ∷ es) (suc i) lows highs =
      passed q e es (ap is_eq (other_way q (lent_path e.0) Less (lows 0 e (omega arith) (omega arith))))
      ∙ absent-between q es i (λ k d lt in_range. lows (suc k) d (omega arith) (omega arith)) (λ k d le in_range. highs (suc k) d (omega arith) (omega arith))

  -- what a binary search among rising paths answers is where the path stands, or that it is not there
  pub path-search : (q : Path) (es : List (LentPath × V)) (r : Result ℕ ℕ) → lent_rise es ≡ true → MatchResult r (λ i. i < length es) (λ i. i ≤ length es)
      → IsBinarySearchResult (compared q) es r → IsPathSearch q es r
  path-search q es (Ok i) h bound found = record { within = bound; is = λ e. found-at q es i e h bound (found e) }
  path-search q es (Err i) h bound found =
      let parts = found (compared-rises q es h) in
      absent-between q es i (λ k d lt in_range. parts.0 k d (omega arith) lt) (λ k d le lt. parts.1 k d le lt)

  -- the values in path order have paths that rise
  pub order-rises : (es sorted : List (LentPath × V)) → sorted ≡ by_lent_path es → lent_rise sorted ≡ true
  order-rises es sorted is =
      ap lent_rise is ∙ ap (is_sorted path_cmp) (shown-sorted (λ (v : V). tt) es) ∙ holds _ (from_entries (shown (λ (v : V). tt) es)).in_order
