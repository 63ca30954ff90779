-- The entries of a map over the paths of another, in path order; and what is counted over them.
use Rattle.std.proofs.Common.{◌≡◌, ℕ, ◌+◌, List, [], ◌∷◌, map, true, ◌&&◌, Option, Some, None, refl, ap, ◌∙◌, arith}
use Rattle.std.specs.Cmp.{first_so, second_so}
use Rattle.std.specs.FinMap.Entries.{put, by_order, below_all, is_sorted}
use Rattle.std.specs.List.{cons_option}
use Rattle.std.specs.Ordering.{is_lt}
use Rattle.std.specs.Prelude.{option_map}
use Rattle.ssa_model.specs.definitions.Path.{Path, path_cmp}
use Rattle.ssa_model.specs.definitions.PathMap.{PathMap, from_entries, paths, size, map_of}
use Rattle.ssa_model.specs.laws.RecordWalks.{found}
use Rattle.ssa_model.proofs.Tests.{holds}
use Rattle.ssa_model.proofs.Sums.{total, length-total}
use Rattle.ssa_model.proofs.Basics.{lower}

module _ {X : Type 0} where
  put-first : (p : Path) (x : X) (es : List (Path × X)) → below_all path_cmp p es ≡ true → put path_cmp p x es ≡ (p, x) ∷ es
  put-first p x [] h = refl
  put-first p x (e ∷ es) h = ap (λ o. by_order o ((p, x) ∷ e ∷ es) ((e.0, x) ∷ es) (e ∷ put path_cmp p x es)) (lower (path_cmp p e.0) (first_so _ _ h))

  sorted-entries : (es : List (Path × X)) → is_sorted path_cmp es ≡ true → (from_entries es).entries ≡ es
  sorted-entries [] h = refl
  sorted-entries (e ∷ es) h = ap (put path_cmp e.0 e.1) (sorted-entries es (second_so _ _ h)) ∙ put-first e.0 e.1 es (first_so _ _ h)

module _ {Y : Type 0} where
  below-cons : (q p : Path) (o : Option Y) (es : List (Path × Y)) → is_lt (path_cmp q p) ≡ true → below_all path_cmp q es ≡ true
      → below_all path_cmp q (cons_option (option_map (λ x. (p, x)) o) es) ≡ true
  below-cons q p None es a h = h
  below-cons q p (Some x) es a h = λ i. a i && h i

  sorted-cons : (p : Path) (o : Option Y) (es : List (Path × Y)) → below_all path_cmp p es ≡ true → is_sorted path_cmp es ≡ true
      → is_sorted path_cmp (cons_option (option_map (λ x. (p, x)) o) es) ≡ true
  sorted-cons p None es a h = h
  sorted-cons p (Some x) es a h = λ i. a i && h i

module _ {X Y : Type 0} (f : Path → Option Y) where
  abbrev keys : List (Path × X) → List Path
  keys es = map (λ e. e.0) es

  below-found : (q : Path) (es : List (Path × X)) → below_all path_cmp q es ≡ true → below_all path_cmp q (found f (keys es)) ≡ true
  below-found q [] h = refl
  below-found q (e ∷ es) h = below-cons q e.0 (f e.0) (found f (keys es)) (first_so _ _ h) (below-found q es (second_so _ _ h))

  sorted-found : (es : List (Path × X)) → is_sorted path_cmp es ≡ true → is_sorted path_cmp (found f (keys es)) ≡ true
  sorted-found [] h = refl
  sorted-found (e ∷ es) h = sorted-cons e.0 (f e.0) (found f (keys es)) (below-found e.0 es (first_so _ _ h)) (sorted-found es (second_so _ _ h))

  -- the entries of a function's map over the paths of another are its answers along these paths
  pub map-entries : (m : PathMap X) → (map_of (paths m) f).entries ≡ found f (paths m)
  map-entries m = sorted-entries (found f (paths m)) (sorted-found m.entries (holds _ m.in_order))

-- ---- sums over them

-- what an answer counts for
abbrev pub counted : {Y : Type 0} → (Y → ℕ) → Option Y → ℕ
counted g None = 0
counted g (Some y) = g y

module _ {Y : Type 0} (g : Path × Y → ℕ) (f : Path → Option Y) where
  total-cons : (p : Path) (o : Option Y) (es : List (Path × Y)) → total g (cons_option (option_map (λ x. (p, x)) o) es) ≡ counted (λ y. g (p, y)) o + total g es
  total-cons p None es = omega arith
  total-cons p (Some y) es = refl

  total-found : (ps : List Path) → total g (found f ps) ≡ total (λ p. counted (λ y. g (p, y)) (f p)) ps
  total-found [] = refl
  total-found (p ∷ ps) = total-cons p (f p) (found f ps) ∙ ap (λ n. counted (λ y. g (p, y)) (f p) + n) (total-found ps)

  -- the sum over its entries is the sum of what the answers count for, along these paths
  pub total-map : {X : Type 0} (m : PathMap X) → total g (map_of (paths m) f).entries ≡ total (λ p. counted (λ y. g (p, y)) (f p)) (paths m)
  total-map m = ap (total g) (map-entries f m) ∙ total-found (paths m)

-- its size is the number of these paths that have an answer
pub size-map : {X Y : Type 0} (m : PathMap X) (f : Path → Option Y) → size (map_of (paths m) f) ≡ total (λ p. counted (λ y. 1) (f p)) (paths m)
size-map m f = length-total (map_of (paths m) f).entries ∙ total-map (λ e. 1) f m
