-- The places above what goes of a body, and above what stays of it.
use Rattle.std.proofs.Common.{◌≡◌, [], ◌∷◌, true, false, not, ◌&&◌, ◌||◌, refl, sym, ◌∙◌, true≢false}
use Rattle.std.specs.Cmp.{first_so, second_so}
use Rattle.ssa_model.specs.definitions.Body.{Body, points}
use Rattle.ssa_model.specs.definitions.Path.{Path, same_element, under}
use Rattle.ssa_model.specs.definitions.PathMap.{PathSet, has, has_at_or_above, has_at_or_below, set_of}
use Rattle.ssa_model.specs.definitions.PathMap.{paths as set_paths}
use Rattle.ssa_model.proofs.Basics.{or_true}
use Rattle.ssa_model.proofs.Fitting.{same_element-true}
use Rattle.ssa_model.proofs.PathMaps.{has-paths, has-set_of, has-union}
use Rattle.ssa_model.proofs.Pruned.{from_one, some_one}
use Rattle.ssa_model.proofs.Tables.{either, element-itself as same_element-itself, true_or}
use Rattle.ssa_typed.specs.Cut.{uncut}

-- of two beginnings of a path one is a beginning of the other
pub comparable : (g q x : Path) → under g x ≡ true → under q x ≡ true → (under g q || under q g) ≡ true
comparable [] q x u v = refl
comparable (e ∷ g) [] x u v = refl
comparable (e ∷ g) (f ∷ q) [] u v = absurd (true≢false (sym u))
comparable (e ∷ g) (f ∷ q) (h ∷ x) u v =
    let first = same_element-true e h (first_so (same_element e h) (under g x) u) in
    let second = same_element-true f h (first_so (same_element f h) (under q x) v) in
    (λ i. (same_element (first i) (second i) && under g q) || (same_element (second i) (first i) && under q g))
    ∙ (λ i. (same_element-itself h i && under g q) || (same_element-itself h i && under q g))
    ∙ comparable g q x (second_so (same_element e h) (under g x) u) (second_so (same_element f h) (under q x) v)

module _ (b : Body) (gone held : PathSet) where
  abbrev Free : PathSet
  Free = set_of (set_paths (points b)) (λ q. not (has_at_or_above gone q))

  abbrev Left : PathSet
  Left = uncut b gone held

  -- a point that stays leaves all above it
  pub left-point : (p q : Path) → has (points b) q ≡ true → under p q ≡ true → has_at_or_above gone q ≡ false → has_at_or_below Left p ≡ true
  left-point p q point above free =
      let in_free : has Free q ≡ true = has-set_of (set_paths (points b)) (λ x. not (has_at_or_above gone x)) q
      ∙ (λ i. (sym (has-paths (points b) q) ∙ point) i && not (free i)) in
      from_one (under p) (set_paths Left) q (sym (has-paths Left q) ∙ has-union Free held q ∙ true_or (has Free q) (has held q) in_free) above

  -- a path above a point that goes is along the paths that go
  pub gone-point : (p q : Path) → under p q ≡ true → has_at_or_above gone q ≡ true → (has_at_or_above gone p || has_at_or_below gone p) ≡ true
  gone-point p q above goes =
      let g = some_one (λ x. under x q) (set_paths gone) goes in
      either (under g.0 p) (under p g.0) (comparable g.0 p q g.2 above)
      (λ up. true_or (has_at_or_above gone p) (has_at_or_below gone p) (from_one (λ x. under x p) (set_paths gone) g.0 g.1 up))
      (λ down. or_true (has_at_or_above gone p) (has_at_or_below gone p) (from_one (under p) (set_paths gone) g.0 g.1 down))
