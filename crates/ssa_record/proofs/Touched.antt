-- Of which paths anything is told.
use Rattle.std.proofs.Common.{◌≡◌, List, [], ◌∷◌, ◌++◌, Bool, true, false, ◌||◌, refl, sym, ap, ◌∙◌}
use Rattle.std.proofs.lemmas.List.Folds.{list_any-append}
use Rattle.std.specs.FinMap.Entries.{is_some-find}
use Rattle.std.specs.Prelude.{is_some}
use Rattle.ssa_model.specs.definitions.Path.{Path, path_cmp, same_path}
use Rattle.ssa_model.specs.definitions.PathMap.{PathSet, empty, from_entries, has, listed, marked}
use Rattle.ssa_model.proofs.PathMaps.{get-from_entries, same_sets}
use Rattle.ssa_path.specs.Trie.{is_one_of}
use Rattle.ssa_told.specs.Told.{BodyTold}
use Rattle.ssa_record.specs.Places.{AllTouched, maps_told, told_paths}
use Rattle.ssa_record.specs.ToldEntries.{AddsPaths}
use Rattle.ssa_model.proofs.Lists.{has-listed}

-- the paths of the four lists, one list after the other
abbrev all_paths : BodyTold → List Path
all_paths t = t.cut ++ (told_paths t.leaves ++ (told_paths t.order ++ told_paths t.put))

one-of-four : (a b c d : List Path) (q : Path) → is_one_of (a ++ (b ++ (c ++ d))) q ≡ (is_one_of a q || (is_one_of b q || (is_one_of c q || is_one_of d q)))
one-of-four a b c d q =
    list_any-append (same_path q) a (b ++ (c ++ d))
    ∙ ap (λ x. is_one_of a q || x) (list_any-append (same_path q) b (c ++ d) ∙ ap (λ x. is_one_of b q || x) (list_any-append (same_path q) c d))

or-right : (a b c d : Bool) → (((a || b) || c) || d) ≡ (a || (b || (c || d)))
or-right true b c d = refl
or-right false true c d = refl
or-right false false true d = refl
or-right false false false d = refl

paths-marked : (ps : List Path) → told_paths (marked ps) ≡ ps
paths-marked [] = refl
paths-marked (p ∷ ps) = ap (λ l. p ∷ l) (paths-marked ps)

-- the paths of the four lists, added one list after the other, are those of which anything is told
pub touched-is : (t : BodyTold) (s a b c d : PathSet) → s ≡ empty → AddsPaths (told_paths (marked t.cut)) s a → AddsPaths (told_paths t.leaves) a b
    → AddsPaths (told_paths t.order) b c → AddsPaths (told_paths t.put) c d → d ≡ (maps_told t).touched
touched-is t s a b c d none by_cut by_leaves by_order by_put =
    same_sets d (listed (all_paths t)) (λ q.
    let cut : has a q ≡ is_one_of t.cut q = by_cut q ∙ (λ i. has (none i) q || is_one_of (paths-marked t.cut i) q) in
    let leaves = by_leaves q ∙ ap (λ x. x || is_one_of (told_paths t.leaves) q) cut in
    let order = by_order q ∙ ap (λ x. x || is_one_of (told_paths t.order) q) leaves in
    by_put q ∙ ap (λ x. x || is_one_of (told_paths t.put) q) order
    ∙ or-right (is_one_of t.cut q) (is_one_of (told_paths t.leaves) q) (is_one_of (told_paths t.order) q) (is_one_of (told_paths t.put) q)
    ∙ sym (has-listed (all_paths t) q ∙ one-of-four t.cut (told_paths t.leaves) (told_paths t.order) (told_paths t.put) q))

has-told : {X : Type 0} (es : List (Path × X)) (p : Path) → has (from_entries es) p ≡ is_one_of (told_paths es) p
has-told es p = ap is_some (get-from_entries es p) ∙ is_some-find path_cmp p es

first : (a b c d : Bool) → a ≡ true → (a || (b || (c || d))) ≡ true
first a b c d h = ap (λ x. x || (b || (c || d))) h

second : (a b c d : Bool) → b ≡ true → (a || (b || (c || d))) ≡ true
second true b c d h = refl
second false b c d h = ap (λ x. x || (c || d)) h

third : (a b c d : Bool) → c ≡ true → (a || (b || (c || d))) ≡ true
third true b c d h = refl
third false true c d h = refl
third false false c d h = ap (λ x. x || d) h

fourth : (a b c d : Bool) → d ≡ true → (a || (b || (c || d))) ≡ true
fourth true b c d h = refl
fourth false true c d h = refl
fourth false false true d h = refl
fourth false false false d h = h

-- what is told of a place is told of a touched path
pub all-touched : (t : BodyTold) → AllTouched (maps_told t)
all-touched t =
    let cut : Path → Bool = is_one_of t.cut in
    let leaves : Path → Bool = is_one_of (told_paths t.leaves) in
    let order : Path → Bool = is_one_of (told_paths t.order) in
    let put : Path → Bool = is_one_of (told_paths t.put) in
    let at : (p : Path) → has (maps_told t).touched p ≡ (cut p || (leaves p || (order p || put p))) =
    λ p. has-listed (all_paths t) p ∙ one-of-four t.cut (told_paths t.leaves) (told_paths t.order) (told_paths t.put) p in
    record {
      cut = λ p one. at p ∙ first (cut p) (leaves p) (order p) (put p) (sym (has-listed t.cut p) ∙ one);
      leaves = λ p one. at p ∙ second (cut p) (leaves p) (order p) (put p) (sym (has-told t.leaves p) ∙ one);
      order = λ p one. at p ∙ third (cut p) (leaves p) (order p) (put p) (sym (has-told t.order p) ∙ one);
      put = λ p one. at p ∙ fourth (cut p) (leaves p) (order p) (put p) (sym (has-told t.put p) ∙ one);
    }
