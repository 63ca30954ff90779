-- How deep the writing of a set nests: little deeper than its longest path is long, and no path of a body is longer than its kind has levels.
use Rattle.std.proofs.Common.{◌≡◌, ◌≤◌, ℕ, zero, suc, List, [], ◌∷◌, Bool, true, false, Some, None, length, refl, ◌∙◌, arith, true≢false, sym}
use Rattle.std.proofs.Math.Nat.{max-le}
use Rattle.std.specs.Prelude.{if◌then◌else◌, is_some, codes}
use Rattle.std.specs.List.{list_any, AllByRecursion}
use Rattle.ssa_model.specs.definitions.Json.{Json, object, no_members, member, depth, members_depth}
use Rattle.ssa_model.specs.definitions.Path.{Element, Path, is_root, same_path}
use Rattle.ssa_model.specs.definitions.PathMap.{PathSet, get, has, paths}
use Rattle.ssa_model.specs.definitions.Kind.{Kind}
use Rattle.ssa_model.specs.definitions.Body.{Body}
use Rattle.ssa_model.specs.definitions.FieldsV1.{heads, tails, is_place_alone, nothing_written, field_members, written_paths, longest, fields_json}
use Rattle.ssa_model.specs.definitions.Fitting.{IsBodyOf}
use Rattle.ssa_model.specs.definitions.Valid.{OwnedOwnable}
use Rattle.ssa_model.proofs.KindLevels.{levels, path-levels}
use Rattle.ssa_model.proofs.PathMaps.{has-paths, same_path-itself}
use Rattle.ssa_model.proofs.ShownItems.{each-among}
use Rattle.ssa_model.proofs.Tables.{ownable-has}

either-depth : (b : Bool) (v w : Json) (most : ℕ) → depth v ≤ most → depth w ≤ most → depth (if b then v else w) ≤ most
either-depth true v w most h g = h
either-depth false v w most h g = g

-- ---- the writing of paths

field_members-depth : (written : List Path → Json) (most : ℕ) (ps : List Path) (es : List Element) → 1 ≤ most → ((qs : List Path) → depth (written qs) ≤ most)
    → members_depth (field_members written ps es) ≤ most
field_members-depth written most ps [] one h = omega arith
field_members-depth written most ps (e ∷ es) one h =
    max-le (either-depth (is_place_alone (tails e ps)) nothing_written (written (tails e ps)) most one (h (tails e ps)))
    (field_members-depth written most ps es one h)

written-depth : (most : ℕ) (ps : List Path) → depth (written_paths most ps) ≤ suc (suc most)
written-depth zero ps = either-depth (list_any is_root ps) (object (member (codes ".") nothing_written no_members)) nothing_written 2 (omega arith)
    (omega arith)
written-depth (suc most) ps =
    let members = field_members (written_paths most) ps (heads ps) in
    let below = field_members-depth (written_paths most) (suc (suc most)) ps (heads ps) (omega arith) (λ qs. written-depth most qs) in
    either-depth (list_any is_root ps) (object (member (codes ".") nothing_written members)) (object members) (suc (suc (suc most))) (omega arith) (omega arith)

longest-bound : (ps : List Path) (most : ℕ) → AllByRecursion (λ (p : Path). length p ≤ most) ps → longest ps ≤ most
longest-bound [] most h = omega arith
longest-bound (p ∷ ps) most h = max-le h.0 (longest-bound ps most h.1)

-- ---- owned sets

-- no path of the set is longer
abbrev pub IsShortSet : ℕ → PathSet → Type 0
IsShortSet most s = (p : Path) → has s p ≡ true → length p ≤ most

-- the writing of a set nests at most two levels more than its longest path may have elements
pub short-depth : (most : ℕ) (s : PathSet) → IsShortSet most s → depth (fields_json s) ≤ suc (suc most)
short-depth most s h =
    let bound = longest-bound (paths s) most (each-among same_path same_path-itself (λ (p : Path). length p ≤ most) (paths s)
    (λ p among. h p (has-paths s p ∙ among))) in
    let written = written-depth (longest (paths s)) (paths s) in
    omega arith

path-bound : (kind : Kind) (body : Body) (p : Path) → IsBodyOf kind body → has body p ≡ true → length p ≤ levels kind
path-bound kind body p k one =
    elim (get body p) as (λ o. get body p ≡ o → is_some o ≡ true → length p ≤ levels kind) [
      | None ↦ λ _ h. absurd (true≢false (sym h))
      | Some c ↦ λ is _. let at = k.fits p c is in path-levels kind p at.place at.there
    ] refl one

-- what can be owned in a body of a kind has no path longer than the kind has levels
pub owned-short : (kind : Kind) (body : Body) (owned : PathSet) → IsBodyOf kind body → OwnedOwnable body owned → IsShortSet (levels kind) owned
owned-short kind body owned k ownable p one = path-bound kind body p k (ownable-has body p (ownable p one))

-- so its writing nests at most two levels more than the kind has
pub owned-depth : (kind : Kind) (body : Body) (owned : PathSet) → IsBodyOf kind body → OwnedOwnable body owned
    → depth (fields_json owned) ≤ suc (suc (levels kind))
owned-depth kind body owned k ownable = short-depth (levels kind) owned (owned-short kind body owned k ownable)
