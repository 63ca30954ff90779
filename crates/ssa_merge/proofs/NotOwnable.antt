-- The paths of a set that nobody can own in a body.
use Rattle.std.proofs.Common.{◌≡◌, ◌≤◌, arith, length, get_or, List, [], ◌∷◌, map, Bool, true, false, not, ◌&&◌, ◌||◌, refl, sym, ap, ◌∙◌, true≢false}
use Rattle.std.specs.Prelude.{Some, None}
use Rattle.ssa_model.specs.definitions.Path.{Path, same_path}
use Rattle.ssa_model.specs.definitions.PathMap.{PathSet, empty, has, insert, is_empty, paths, set_of, union}
use Rattle.ssa_model.specs.definitions.Body.{Body, is_ownable}
use Rattle.ssa_model.specs.definitions.Valid.{metadata_path}
use Rattle.ssa_model.proofs.Ownable.{is_never, ownable-is}
use Rattle.ssa_model.proofs.PathMaps.{has-insert, has-paths, has-set_of, has-union, paths-tested, same_sets}
use Rattle.ssa_path.specs.Meet.{meet}
use Rattle.ssa_model.specs.definitions.GivenEntries.{not_ownable}
use Rattle.ssa_merge.specs.EntryReading.{first_of}

-- ---- those that nobody can own

-- the paths that nobody ever owns: the root and metadata
abbrev pub never : PathSet
never = insert metadata_path tt (insert [] tt empty)

has-never : (p : Path) → has never p ≡ is_never p
has-never p = has-insert metadata_path (insert [] tt empty) p ∙ ap (λ b. same_path p metadata_path || b) (has-insert [] empty p)

either-way : (s h n : Bool) → ((s && not h) || (s && n)) ≡ (s && not (h && not n))
either-way false h n = refl
either-way true false n = refl
either-way true true true = refl
either-way true true false = refl

-- the paths of a set that a body has not, with those that nobody ever owns, are those that cannot be owned in it
pub not_ownable-is : (b : Body) (s : PathSet) → union (set_of (paths s) (λ p. not (has b p))) (meet s never) ≡ set_of (paths s) (λ p. not (is_ownable b p))
not_ownable-is b s = same_sets _ _ (λ q.
    let there = sym (has-paths s q) in
    has-union (set_of (paths s) (λ p. not (has b p))) (meet s never) q
    ∙ (λ i. has-set_of (paths s) (λ p. not (has b p)) q i || has-set_of (paths s) (has never) q i)
    ∙ (λ i. (there i && not (has b q)) || (there i && has-never q i))
    ∙ either-way (has s q) (has b q) (is_never q)
    ∙ (λ i. sym there i && not (sym (ownable-is b q) i))
    ∙ sym (has-set_of (paths s) (λ p. not (is_ownable b p)) q))

-- the first path of those that nobody can own
pub first-refused : (b : Body) (s refused : PathSet) → refused ≡ set_of (paths s) (λ p. not (is_ownable b p))
    → first_of (paths refused) ≡ first_of (not_ownable b s)
first-refused b s refused is = ap (λ r. first_of (paths r)) is ∙ ap first_of (paths-tested s (λ p. not (is_ownable b p)))

-- an empty set has no first path
pub first-none : (s : PathSet) → is_empty s ≡ true → first_of (paths s) ≡ None
first-none s h =
    elim s.entries as (λ es. (elim es [ [] ↦ true | e ∷ es ↦ false ]) ≡ true
    → first_of (map (λ (e : Path × Unit {0}). e.0) es) ≡ None) [ [] ↦ λ _. refl | e ∷ es ↦ λ some. absurd (true≢false (sym some)) ] h

none-long : 1 ≤ 0 → ⊥
none-long h = omega arith

-- the path that stands at the start of a list is its first
pub first-listed : (ps : List Path) (p : Path) → 1 ≤ length ps → p ≡ get_or ps 0 p → Some p ≡ first_of ps
first-listed [] p h is = absurd (none-long h)
first-listed (q ∷ ps) p h is = ap Some is
