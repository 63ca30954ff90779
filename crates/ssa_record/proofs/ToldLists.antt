-- What a list tells as far as it is read: its entries, and their paths among those of which anything is told.
use Rattle.std.proofs.Common.{◌≡◌, ℕ, ◌+◌, ◌<◌, List, [], ◌∷◌, ◌++◌, length, get_or, take, map, Bool, true, false, ◌||◌, refl, sym, ap, ◌∙◌}
use Rattle.std.proofs.lemmas.List.{map-append, take_more}
use Rattle.std.proofs.lemmas.List.Folds.{list_any-append}
use Rattle.ssa_model.specs.definitions.Path.{Path, same_path}
use Rattle.ssa_model.specs.definitions.PathMap.{PathSet, has, insert}
use Rattle.ssa_model.proofs.PathMaps.{has-insert}
use Rattle.ssa_path.specs.Trie.{is_one_of}
use Rattle.ssa_path.specs.TopPaths.{lent_path}
use Rattle.ssa_path.specs.declared.top_path.LentPath.{LentPath}
use Rattle.ssa_record.specs.Places.{told_paths}
use Rattle.ssa_record.specs.ToldEntries.{AddsPaths}
use Rattle.ssa_record.proofs.ByPaths.{shown}

or-last : (a b c : Bool) → (a || (b || c)) ≡ (b || (c || (a || false)))
or-last true true c = refl
or-last true false true = refl
or-last true false false = refl
or-last false true c = refl
or-last false false true = refl
or-last false false false = refl

-- what is asked with nothing beside it is what is asked
pub or-none : (a : Bool) → a ≡ (a || false)
or-none true = refl
or-none false = refl

-- one path more
pub adds-more : (ps : List Path) (p : Path) (s t u : PathSet) → AddsPaths ps s t → u ≡ insert p tt t → AddsPaths (ps ++ p ∷ []) s u
adds-more ps p s t u h is q =
    ap (λ z. has z q) is ∙ has-insert p t q ∙ ap (λ b. same_path q p || b) (h q) ∙ or-last (same_path q p) (has s q) (is_one_of ps q)
    ∙ ap (λ b. has s q || b) (sym (list_any-append (same_path q) ps (p ∷ [])))

module _ {A V X : Type 0} (tell : A → Path × X) (f : V → X) where
  -- the first i of the list are read into entries, and their paths are added to a set
  pub record IsReadTo (xs : List A) (i : ℕ) (s t : PathSet) (es : List (LentPath × V)) : Type 0 where
    -- the entries read so far are those that the list tells
    pub told : shown f es ≡ map tell (take i xs)
    -- their paths have been added to the set
    pub touched : AddsPaths (told_paths (map tell (take i xs))) s t

  -- one more of the list is read: an entry more, and its path in the set
  pub read-more : (xs : List A) (i : ℕ) (x : A) (s t u : PathSet) (es fs : List (LentPath × V)) (e : LentPath × V) → i < length xs → x ≡ get_or xs i x
      → IsReadTo xs i s t es → u ≡ insert (tell x).0 tt t → fs ≡ es ++ e ∷ [] → (lent_path e.0, f e.1) ≡ tell x → IsReadTo xs (i + 1) s u fs
  read-more xs i x s t u es fs e lt is h more pushed alike =
      let next : map tell (take (i + 1) xs) ≡ map tell (take i xs) ++ tell x ∷ [] =
      ap (map tell) (take_more xs i x lt ∙ ap (λ y. take i xs ++ y ∷ []) (sym is)) ∙ map-append tell (take i xs) (x ∷ []) in
      let all : told_paths (map tell (take (i + 1) xs)) ≡ told_paths (map tell (take i xs)) ++ (tell x).0 ∷ [] =
      ap told_paths next ∙ map-append (λ (e : Path × X). e.0) (map tell (take i xs)) (tell x ∷ []) in
      record {
        told = ap (shown f) pushed ∙ map-append (λ e. (lent_path e.0, f e.1)) es (e ∷ []) ∙ (λ k. h.told k ++ alike k ∷ []) ∙ sym next;
        touched = λ q. adds-more (told_paths (map tell (take i xs))) (tell x).0 s t u h.touched more q ∙ ap (λ ps. has s q || is_one_of ps q) (sym all);
      }
