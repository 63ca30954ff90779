-- The set of a list of paths, by what it answers.
use Rattle.std.proofs.Common.{◌≡◌, List, [], ◌∷◌, map, Bool, true, false, ◌&&◌, ◌||◌, not, Less, Equal, Greater, refl, sym, ap, ◌∙◌}
use Rattle.std.proofs.Math.Bool.{and_comm}
use Rattle.std.specs.Prelude.{is_some}
use Rattle.std.specs.List.{list_any}
use Rattle.std.specs.FinMap.Entries.{find, put, by_order}
use Rattle.ssa_model.specs.definitions.Path.{Path, path_cmp, same_path, under}
use Rattle.ssa_model.specs.definitions.PathMap.{PathSet, has, has_at_or_below, insert, is_empty, set_of, paths as set_paths, listed, marked}
use Rattle.ssa_model.proofs.PathMaps.{has-insert, has-minus, has-paths, has-set_of, has-union, same_sets}
use Rattle.ssa_model.proofs.Texts.{same_path_same}
use Rattle.ssa_path.specs.Combine.{concerns, is_concerned, keeps, IsCombination}
use Rattle.ssa_path.specs.Meet.{combined, meet}
use Rattle.ssa_path.specs.Trie.{has_some, is_one_of, paths}
use Rattle.ssa_path.specs.declared.combine.Combination.{Combination}
use Rattle.ssa_path.specs.declared.combine.Combination.TheVariants.{Union, Minus, Meet, WithoutOver, Over}
use Rattle.ssa_path.specs.declared.trie.Trie.{Trie}
use Rattle.ssa_model.proofs.Lists.{has-listed}
use Rattle.ssa_model.proofs.Basics.{or_twice, some_or}

find-marked : (ps : List Path) (q : Path) → is_some (find path_cmp q (marked ps)) ≡ is_one_of ps q
find-marked [] q = refl
find-marked (p ∷ ps) q = some_or (same_path q p) (find path_cmp q (marked ps)) ∙ ap (λ b. same_path q p || b) (find-marked ps q)

-- ---- any test of paths

abbrev Entries : Type 0
Entries = List (Path × Unit {0})

abbrev keys : Entries → List Path
keys = map (λ e. e.0)

or_swap : (a b c : Bool) → (b || (a || c)) ≡ (a || (b || c))
or_swap true true c = refl
or_swap true false c = refl
or_swap false true c = refl
or_swap false false c = refl

any-put : (test : Path → Bool) (p : Path) (es : Entries) → list_any test (keys (put path_cmp p tt es)) ≡ (test p || list_any test (keys es))
any-put test p [] = refl
any-put test p (e ∷ es) =
    elim (path_cmp p e.0) as (λ o. path_cmp p e.0 ≡ o → list_any test (keys (by_order o ((p, tt) ∷ e ∷ es) ((e.0, tt) ∷ es) (e ∷ put path_cmp p tt es)))
    ≡ (test p || (test e.0 || list_any test (keys es)))) [
      | Less ↦ λ t. refl
      | Equal ↦ λ t. or_twice (test e.0) (list_any test (keys es)) ∙ ap (λ x. test x || (test e.0 || list_any test (keys es))) (sym (same_path_same p e.0 t))
      | Greater ↦ λ t. ap (λ b. test e.0 || b) (any-put test p es) ∙ or_swap (test p) (test e.0) (list_any test (keys es))
    ] refl

-- some path of a set passes a test where some that was listed does
pub any-listed : (test : Path → Bool) (ps : List Path) → list_any test (set_paths (listed ps)) ≡ list_any test ps
any-listed test [] = refl
any-listed test (p ∷ ps) = any-put test p (listed ps).entries ∙ ap (λ b. test p || b) (any-listed test ps)

-- a set has something at or below a path where what was listed has
pub below-listed : (ps : List Path) (q : Path) → has_at_or_below (listed ps) q ≡ list_any (under q) ps
below-listed ps q = any-listed (under q) ps

empty-any : (s : PathSet) → is_empty s ≡ not (list_any (λ p. true) (set_paths s))
empty-any s = by s.entries
  where
    by : (es : Entries) → elim es [ [] ↦ true | e ∷ es ↦ false ] ≡ not (list_any (λ p. true) (keys es))
    by [] = refl
    by (e ∷ es) = refl

any-some : (ps : List Path) → list_any (λ p. true) ps ≡ has_some ps
any-some [] = refl
any-some (p ∷ ps) = refl

-- a set is empty where nothing was listed
pub empty-listed : (ps : List Path) → is_empty (listed ps) ≡ not (has_some ps)
empty-listed ps = empty-any (listed ps) ∙ ap not (any-listed (λ p. true) ps ∙ any-some ps)

-- ---- what is put into a set, and two sets put together

-- the set of a trie with one path more is the set with the path put in
pub listed-insert : (n m : Trie) (p : Path) → ((q : Path) → is_one_of (paths m) q ≡ (same_path q p || is_one_of (paths n) q))
    → listed (paths m) ≡ insert p tt (listed (paths n))
listed-insert n m p e =
    same_sets _ _ (λ q. has-listed (paths m) q ∙ e q ∙ ap (λ b. same_path q p || b) (sym (has-listed (paths n) q)) ∙ sym (has-insert p (listed (paths n)) q))

-- a path is in the meet of two sets where it is in both
pub has-meet : (s t : PathSet) (q : Path) → has (meet s t) q ≡ (has s q && has t q)
has-meet s t q = has-set_of (set_paths s) (has t) q ∙ ap (λ b. b && has t q) (sym (has-paths s q))

-- either set may come first in a meet
pub meet-comm : (s t : PathSet) → meet s t ≡ meet t s
meet-comm s t = same_sets (meet s t) (meet t s) (λ q. has-meet s t q ∙ and_comm (has s q) (has t q) ∙ sym (has-meet t s q))

has-combined : (how : Combination) (s t : PathSet) (q : Path) → has (combined how s t) q ≡ keeps how (has s q) (is_concerned how (set_paths t) q)
has-combined Union s t q = has-union s t q ∙ ap (λ b. has s q || b) (has-paths t q)
has-combined Minus s t q = has-minus s t q ∙ ap (λ b. has s q && not b) (has-paths t q)
has-combined Meet s t q = has-meet s t q ∙ ap (λ b. has s q && b) (has-paths t q)
has-combined WithoutOver s t q = has-set_of (set_paths s) (λ p. not (has_at_or_below t p)) q ∙ ap (λ b. b && not (has_at_or_below t q)) (sym (has-paths s q))
has-combined Over s t q = has-set_of (set_paths s) (has_at_or_below t) q ∙ ap (λ b. b && has_at_or_below t q) (sym (has-paths s q))

-- the set of a combination of tries is the combination of their sets
pub listed-combined : (how : Combination) (m n t : Trie) → IsCombination how m n t → listed (paths t) ≡ combined how (listed (paths m)) (listed (paths n))
listed-combined how m n t h =
    same_sets _ _ (λ q.
    has-listed (paths t) q ∙ h.paths_are q ∙ (λ i. keeps how (sym (has-listed (paths m) q) i) (sym (any-listed (concerns how q) (paths n)) i))
    ∙ sym (has-combined how (listed (paths m)) (listed (paths n)) q))

-- the set of a trie's paths that pass a test is that of the set's paths that do
pub listed-tested : (m t : Trie) (test : Path → Bool) → ((q : Path) → is_one_of (paths t) q ≡ (is_one_of (paths m) q && test q))
    → listed (paths t) ≡ set_of (set_paths (listed (paths m))) test
listed-tested m t test e =
    same_sets _ _ (λ q.
    has-listed (paths t) q ∙ e q ∙ ap (λ b. b && test q) (sym (has-listed (paths m) q) ∙ has-paths (listed (paths m)) q)
    ∙ sym (has-set_of (set_paths (listed (paths m))) test q))
