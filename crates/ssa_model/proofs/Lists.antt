-- What the map of a list of entries answers, read off the list.
use Rattle.std.proofs.Common.{◌≡◌, List, [], ◌∷◌, ◌++◌, map, Bool, true, false, ◌&&◌, ◌||◌, Less, Equal, Greater, refl, sym, ap, ◌∙◌, cond}
use Rattle.std.specs.Prelude.{filter, is_some}
use Rattle.std.specs.List.{list_any}
use Rattle.std.specs.FinMap.Entries.{put, by_order, is_some-find}
use Rattle.ssa_model.specs.definitions.Path.{Path, path_cmp, same_path}
use Rattle.ssa_model.specs.definitions.PathMap.{from_entries, has, paths, listed, marked, insert}
use Rattle.ssa_model.proofs.Texts.{same_path_same}
use Rattle.ssa_model.proofs.PathMaps.{is_one_of, get-from_entries, same_path-true, insert_swap}
use Rattle.ssa_model.proofs.Basics.{or_swap, or_twice}

module _ {X : Type 0} where
  -- the paths of the entries
  abbrev pub keys : List (Path × X) → List Path
  keys es = map (λ e. e.0) es

  any-put : (test : Path → Bool) (p : Path) (x : X) (es : List (Path × X)) → list_any test (keys (put path_cmp p x es)) ≡ (test p || list_any test (keys es))
  any-put test p x [] = refl
  any-put test p x (e ∷ es) =
      elim (path_cmp p e.0) as (λ o. path_cmp p e.0 ≡ o → list_any test (keys (by_order o ((p, x) ∷ e ∷ es) ((e.0, x) ∷ es) (e ∷ put path_cmp p x es)))
      ≡ (test p || (test e.0 || list_any test (keys es)))) [
        | Less ↦ λ h. refl
        | Equal ↦ λ h. or_twice (test e.0) _ ∙ ap (λ q. test q || (test e.0 || list_any test (keys es))) (sym (same_path_same p e.0 h))
        | Greater ↦ λ h. ap (λ b. test e.0 || b) (any-put test p x es) ∙ or_swap (test e.0) (test p) _
      ] refl

  -- a test that one of the map's paths passes, one of the list's passes
  pub any-from_entries : (test : Path → Bool) (es : List (Path × X)) → list_any test (paths (from_entries es)) ≡ list_any test (keys es)
  any-from_entries test [] = refl
  any-from_entries test (e ∷ es) = any-put test e.0 e.1 (from_entries es).entries ∙ ap (λ b. test e.0 || b) (any-from_entries test es)

  -- the map of a list of entries has just their paths
  pub has-from_entries : (es : List (Path × X)) (q : Path) → has (from_entries es) q ≡ is_one_of (keys es) q
  has-from_entries es q = ap is_some (get-from_entries es q) ∙ is_some-find path_cmp q es

keys-marked : (ps : List Path) → keys (marked ps) ≡ ps
keys-marked [] = refl
keys-marked (p ∷ ps) = ap (λ qs. p ∷ qs) (keys-marked ps)

-- a test passes one of the set's paths exactly where it passes one of the listed ones
pub any-listed : (test : Path → Bool) (ps : List Path) → list_any test (paths (listed ps)) ≡ list_any test ps
any-listed test ps = any-from_entries test (marked ps) ∙ ap (list_any test) (keys-marked ps)

-- the set of listed paths has just these
pub has-listed : (ps : List Path) (q : Path) → has (listed ps) q ≡ is_one_of ps q
has-listed ps q = has-from_entries (marked ps) q ∙ ap (λ qs. is_one_of qs q) (keys-marked ps)

tested : (q p : Path) (test : Path → Bool) (b : Bool) → cond (test p) (same_path q p || (b && test q)) (b && test q) ≡ ((same_path q p || b) && test q)
tested q p test b =
    elim (same_path q p) as (λ s. same_path q p ≡ s → cond (test p) (s || (b && test q)) (b && test q) ≡ ((s || b) && test q)) [
      | true ↦ λ h. ap (λ x. cond (test x) true (b && test q)) (sym (same_path-true q p h)) ∙ yes (test q)
      | false ↦ λ h. same (test p) (b && test q)
    ] refl
  where
    yes : (t : Bool) → cond t true (b && t) ≡ t
    yes true = refl
    yes false = nothing b
      where
        nothing : (c : Bool) → (c && false) ≡ false
        nothing true = refl
        nothing false = refl

    same : (t x : Bool) → cond t x x ≡ x
    same true x = refl
    same false x = refl

-- a path is among those that pass exactly where it is in the list and passes
pub is_one_of-filter : (test : Path → Bool) (ps : List Path) (q : Path) → is_one_of (filter test ps) q ≡ (is_one_of ps q && test q)
is_one_of-filter test [] q = refl
is_one_of-filter test (p ∷ ps) q =
    inside (test p) ∙ ap (λ b. cond (test p) (same_path q p || b) b) (is_one_of-filter test ps q) ∙ tested q p test (is_one_of ps q)
  where
    inside : (t : Bool) → is_one_of (cond t (p ∷ filter test ps) (filter test ps)) q
        ≡ cond t (same_path q p || is_one_of (filter test ps) q) (is_one_of (filter test ps) q)
    inside true = refl
    inside false = refl

-- a path at the end goes in like any other
pub listed-push : (ps : List Path) (p : Path) → listed (ps ++ p ∷ []) ≡ insert p tt (listed ps)
listed-push [] p = refl
listed-push (q ∷ ps) p = ap (insert q tt) (listed-push ps p) ∙ insert_swap q p (listed ps)
