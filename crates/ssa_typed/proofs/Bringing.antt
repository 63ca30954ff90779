-- How many places a part brings that is put over a body.
use Rattle.std.proofs.Common.{◌≡◌, ℕ, suc, ◌+◌, List, [], ◌∷◌, ◌++◌, Bool, true, false, not, ◌||◌, cond, Option, Some, None, refl, sym, ap, ◌∙◌, true≢false, arith}
use Rattle.std.specs.FinMap.Entries.{length-put}
use Rattle.std.specs.Prelude.{is_some}
use Rattle.ssa_model.specs.definitions.Body.{Content, over}
use Rattle.ssa_model.specs.definitions.Path.{Path, path_cmp, path_cmp_total}
use Rattle.ssa_model.specs.definitions.PathMap.{PathMap, from_entries, get, has, map_of, paths, size}
use Rattle.ssa_model.proofs.Basics.{not_true, or-false as or_false}
use Rattle.ssa_model.proofs.MapEntries.{counted, size-map}
use Rattle.ssa_model.proofs.PathMaps.{get-from_entries, get-over_paths, same_map}
use Rattle.ssa_model.proofs.Sums.{total}
use Rattle.ssa_model.proofs.Tables.{has-over}
use Rattle.ssa_path.proofs.Orders.{both_first, both_second}
use Rattle.ssa_typed.specs.NewPlaces.{count_absent, new_places}
use Rattle.ssa_typed.specs.Rows.{Row, body_of, content_at, is_tree, rows}
use Rattle.ssa_typed.specs.declared.node.Node.{Node}
use Rattle.ssa_typed.proofs.Lookups.{content_at-append, or_else}
use Rattle.ssa_typed.proofs.Looks.{get-body}
use Rattle.ssa_typed.proofs.Sizes.{apart-tree, are_rows_apart}

-- ---- maps with the same paths

counted-alike : {X Y : Type 0} (o : Option X) (q : Option Y) → is_some o ≡ is_some q → counted (λ (x : X). 1) o ≡ counted (λ (y : Y). 1) q
counted-alike None None h = refl
counted-alike None (Some y) h = absurd (true≢false (sym h))
counted-alike (Some x) None h = absurd (true≢false h)
counted-alike (Some x) (Some y) h = refl

where-some : {X : Type 0} (b : Bool) (o : Option X) → is_some o ≡ b → cond b o None ≡ o
where-some true o h = refl
where-some false None h = refl
where-some false (Some x) h = absurd (true≢false h)

module _ {X Y : Type 0} (x : PathMap X) (y : PathMap Y) where
  along : ((p : Path) → has x p ≡ has y p) → size x ≡ total (λ p. counted (λ (v : X). 1) (get x p)) (paths y)
  along h =
      ap size (same_map x (map_of (paths y) (get x)) (λ p. sym (get-over_paths y (get x) p ∙ where-some (has y p) (get x p) (h p))))
      ∙ size-map y (get x)

-- are of one size
pub same-size : {X Y : Type 0} (x : PathMap X) (y : PathMap Y) → ((p : Path) → has x p ≡ has y p) → size x ≡ size y
same-size x y h =
    along x y h ∙ (λ i. total (λ p. counted-alike (get x p) (get y p) (h p) i) (paths y)) ∙ sym (along y y (λ p. refl))

-- ---- rows in front of others

behind-none : (x y : Option Content) → is_some x ≡ false → is_some (or_else x y) ≡ is_some y
behind-none None y h = refl
behind-none (Some c) y h = absurd (true≢false h)

-- rows that have each path once are as many more as have paths that the others lack
size-front : (rs ys : List Row) → are_rows_apart rs ≡ true
    → size (from_entries (rs ++ ys)) ≡ size (from_entries ys) + count_absent (λ p. is_some (content_at ys p)) rs
size-front [] ys h = omega arith
size-front (r ∷ rs) ys h =
    let rest = from_entries (rs ++ ys) in
    let absent : is_some (content_at rs r.0) ≡ false = not_true _ (both_first _ (are_rows_apart rs) h) in
    let there : has rest r.0 ≡ is_some (content_at ys r.0) =
    ap is_some (get-from_entries (rs ++ ys) r.0 ∙ content_at-append rs ys r.0) ∙ behind-none (content_at rs r.0) (content_at ys r.0) absent in
    length-put path_cmp path_cmp_total r.0 r.1 rest.entries rest.in_order
    ∙ ap (λ b. cond b (size rest) (size rest + 1)) there
    ∙ one (is_some (content_at ys r.0)) (size rest) (size (from_entries ys)) (count_absent (λ p. is_some (content_at ys p)) rs)
    (size-front rs ys (both_second (not (is_some (content_at rs r.0))) _ h))
  where
    one : (b : Bool) (s y k : ℕ) → s ≡ y + k → cond b s (s + 1) ≡ y + cond b k (suc k)
    one true s y k e = e
    one false s y k e = omega arith

either-some : (x y : Option Content) → (is_some y || is_some x) ≡ is_some (or_else x y)
either-some None y = or_false (is_some y)
either-some (Some c) None = refl
either-some (Some c) (Some d) = refl

-- THE BRIDGE: a body with a part put over it has the places of the body, and those that are new
pub size-over : (n m : Node) → is_tree m ≡ true → size (over (body_of n) (body_of m)) ≡ size (body_of n) + new_places n m
size-over n m tree =
    same-size (over (body_of n) (body_of m)) (from_entries (rows m ++ rows n)) (λ p.
    has-over (body_of n) (body_of m) p
    ∙ (λ i. is_some (get-body n p i) || is_some (get-body m p i))
    ∙ either-some (content_at (rows m) p) (content_at (rows n) p)
    ∙ ap is_some (sym (content_at-append (rows m) (rows n) p) ∙ sym (get-from_entries (rows m ++ rows n) p)))
    ∙ size-front (rows m) (rows n) (apart-tree m tree)
