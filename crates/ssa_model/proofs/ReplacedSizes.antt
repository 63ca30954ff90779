-- How large a body is with a part in place of what it has at and below a path.
use Rattle.std.proofs.Common.{◌≡◌, ◌+◌, List, [], ◌∷◌, ◌++◌, map, length, Bool, true, false, cond, not, ◌&&◌, Some, None, refl, sym, ap, ◌∙◌, arith}
use Rattle.std.proofs.lemmas.List.{length-map}
use Rattle.std.specs.Cmp.{first_so, second_so}
use Rattle.std.specs.Prelude.{is_some}
use Rattle.ssa_model.specs.definitions.Path.{Path, same_path, under}
use Rattle.ssa_model.specs.definitions.PathMap.{PathSet, has, paths, set_of, size, below, marked, listed}
use Rattle.ssa_model.specs.definitions.Body.{Body}
use Rattle.ssa_model.specs.definitions.Facts.{one_if}
use Rattle.ssa_model.specs.laws.RecordPlaces.{replaced, ReplacedSize}
use Rattle.ssa_model.proofs.Sums.{total}
use Rattle.ssa_model.proofs.MapEntries.{counted, size-map}
use Rattle.ssa_model.proofs.PathMaps.{has-paths, has-set_of, is_one_of, same_map, same_path-itself, same_path-true, same_sets}
use Rattle.ssa_model.proofs.PutParts.{get-below, has-below, prefixed}
use Rattle.ssa_model.proofs.Pruned.{under-append, under-rest}
use Rattle.ssa_model.proofs.RecordSizes.{length-entries, size-below}
use Rattle.ssa_model.proofs.Lists.{has-listed}
use Rattle.ssa_model.proofs.Tables.{either, true_or}
use Rattle.ssa_model.proofs.Tests.{by_test, same_tests}
use Rattle.ssa_model.proofs.ReplacedParts.{get-inside, get-outside}
use Rattle.ssa_model.proofs.Basics.{or_true, yes_no}

-- ---- the paths that pass a test

size-tested : (v : Body) (test : Path → Bool) → size (set_of (paths v) test) ≡ total (λ q. one_if (test q)) (paths v)
size-tested v test = size-map v (λ q. cond (test q) (Some tt) None) ∙ alike (paths v)
  where
    one : (t : Bool) → counted (λ (u : Unit {0}). 1) (cond t (Some tt) None) ≡ one_if t
    one true = refl
    one false = refl

    alike : (ps : List Path) → total (λ q. counted (λ (u : Unit {0}). 1) (cond (test q) (Some tt) None)) ps ≡ total (λ q. one_if (test q)) ps
    alike [] = refl
    alike (q ∷ ps) = λ i. one (test q) i + alike ps i

both-totals : (test : Path → Bool) (ps : List Path) → total (λ q. one_if (test q)) ps + total (λ q. one_if (not (test q))) ps ≡ length ps
both-totals test [] = refl
both-totals test (q ∷ ps) =
    let rest = both-totals test ps in
    let one = each (test q) in
    omega arith
  where
    each : (t : Bool) → one_if t + one_if (not t) ≡ 1
    each true = refl
    each false = refl

size-paths : (v : Body) → length (paths v) ≡ size v
size-paths v = length-map v.entries (λ e. e.0)

-- the paths that pass, and those that don't
size-split : (v : Body) (test : Path → Bool) → size (set_of (paths v) test) + size (set_of (paths v) (λ q. not (test q))) ≡ size v
size-split v test =
    let a = size-tested v test in
    let b = size-tested v (λ q. not (test q)) in
    let c = both-totals test (paths v) in
    let d = size-paths v in
    omega arith

-- ---- what is at and below a path

unprefixed : (g q : Path) (rs : List Path) → is_one_of (map (λ r. g ++ r) rs) q ≡ true → (r : Path) × (is_one_of rs r ≡ true) × (q ≡ g ++ r)
unprefixed g q [] h = absurd (yes_no false h refl)
unprefixed g q (r ∷ rs) h =
    either (same_path q (g ++ r)) (is_one_of (map (λ r. g ++ r) rs) q) h
    (λ same. (r, true_or (same_path r r) (is_one_of rs r) (same_path-itself r), same_path-true q (g ++ r) same))
    (λ later. let x = unprefixed g q rs later in (x.0, or_true (same_path x.0 r) (is_one_of rs x.0) x.1, x.2))

module _ (v : Body) (p : Path) where
  abbrev there : PathSet
  there = set_of (paths v) (under p)

  abbrev rests : List Path
  rests = map (λ r. p ++ r) (paths (below v p))

  there-is : there ≡ listed rests
  there-is =
      same_sets there (listed rests) (λ q.
      has-set_of (paths v) (under p) q
      ∙ same_tests (is_one_of (paths v) q && under p q) (is_one_of rests q)
      (λ both.
      let rest = under-rest p q (second_so (is_one_of (paths v) q) (under p q) both) in
      let one = has-paths v q ∙ first_so (is_one_of (paths v) q) (under p q) both in
      ap (is_one_of rests) rest.1
      ∙ prefixed p rest.0 (paths (below v p)) (sym (has-paths (below v p) rest.0) ∙ has-below v p rest.0 ∙ ap (has v) (sym rest.1) ∙ one))
      (λ one.
      let x = unprefixed p q (paths (below v p)) one in
      let stands = sym (has-paths v q) ∙ ap (has v) x.2 ∙ sym (has-below v p x.0) ∙ has-paths (below v p) x.0 ∙ x.1 in
      (λ i. stands i && (ap (under p) x.2 ∙ under-append p x.0) i))
      ∙ sym (has-listed rests q))

  size-there : size (below v p) ≡ size there
  size-there =
      let a = size-below v p in
      let b = size-tested v (under p) in
      let c : size there ≡ size (listed rests) = ap size there-is in
      let d = length-entries (marked rests) in
      let e : length (marked rests) ≡ length rests = length-map rests (λ q. (q, tt)) in
      let f : length rests ≡ length (paths (below v p)) = length-map (paths (below v p)) (λ r. p ++ r) in
      let g = size-paths (below v p) in
      omega arith

-- ---- in place of it

module _ (v : Body) (p : Path) (b : Body) where
  abbrev w : Body
  w = replaced v p b

  part-is : below w p ≡ b
  part-is = same_map (below w p) b (λ q. get-below w p q ∙ get-inside v p b q)

  others-are : set_of (paths w) (λ q. not (under p q)) ≡ set_of (paths v) (λ q. not (under p q))
  others-are =
      same_sets (set_of (paths w) (λ q. not (under p q))) (set_of (paths v) (λ q. not (under p q))) (λ q.
      has-set_of (paths w) (λ r. not (under p r)) q ∙ (λ i. sym (has-paths w q) i && not (under p q))
      ∙ by_test (under p q)
      (λ u. (λ i. has w q && not (u i)) ∙ neither (has w q) (has v q) ∙ sym (λ i. has v q && not (u i)))
      (λ off. λ i. is_some (get-outside v p b q off i) && not (under p q))
      ∙ (λ i. has-paths v q i && not (under p q)) ∙ sym (has-set_of (paths v) (λ r. not (under p r)) q))
    where
      neither : (s t : Bool) → (s && false) ≡ (t && false)
      neither true true = refl
      neither true false = refl
      neither false true = refl
      neither false false = refl

  size-replaced : size w + size (below v p) ≡ size v + size b
  size-replaced =
      let a = size-split w (under p) in
      let c = size-split v (under p) in
      let d : size (set_of (paths w) (λ q. not (under p q))) ≡ size (set_of (paths v) (λ q. not (under p q))) = ap size others-are in
      let e = size-there w p in
      let f = size-there v p in
      let g : size (below w p) ≡ size b = ap size part-is in
      omega arith

-- with a part in place of what it had there, a body is as large as it was, less what is gone, and the part
pub replaced_size : ReplacedSize
replaced_size v p b = size-replaced v p b
