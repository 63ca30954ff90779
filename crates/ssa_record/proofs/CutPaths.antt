-- The paths that changes of a body cut, as a set.
use Rattle.std.proofs.Common.{◌≡◌, ℕ, ◌+◌, ◌<◌, List, [], ◌∷◌, ◌++◌, get_or, length, take, map, Bool, true, false, ◌||◌, refl, sym, ap, ◌∙◌, append_assoc, append-nil}
use Rattle.std.proofs.lemmas.List.{map-append}
use Rattle.std.proofs.lemmas.List.Folds.{list_any-append}
use Rattle.std.specs.FinMap.Entries.{is_some-find}
use Rattle.std.specs.Prelude.{is_some}
use Rattle.ssa_model.specs.definitions.Path.{Element, Path, path_cmp, same_path}
use Rattle.ssa_model.specs.definitions.PathMap.{PathSet, empty, from_entries, has, insert}
use Rattle.ssa_model.proofs.PathMaps.{get-from_entries, same_sets}
use Rattle.ssa_path.specs.Trie.{is_one_of}
use Rattle.ssa_path.specs.View.{element_view, path_view}
use Rattle.ssa_path.specs.declared.element.Elem.{Elem}
use Rattle.ssa_path.proofs.Lists.{taken-at}
use Rattle.ssa_turn_body.specs.Records.{at_place, cuts_in, told_by}
use Rattle.ssa_turn_body.specs.declared.steps.Step.{Step}
use Rattle.ssa_record.specs.LedStates.{path_after, paths_after}
use Rattle.ssa_record.specs.Places.{told_paths}
use Rattle.ssa_record.specs.ToldEntries.{AddsPaths}
use Rattle.ssa_record.proofs.ToldLists.{adds-more, or-none as or-nothing}

or-shift : (a b c : Bool) → ((a || b) || c) ≡ (a || (b || c))
or-shift true b c = refl
or-shift false b c = refl

-- other paths behind some
adds-behind : (ps qs : List Path) (s t u : PathSet) → AddsPaths ps s t → AddsPaths qs t u → AddsPaths (ps ++ qs) s u
adds-behind ps qs s t u first second q =
    second q ∙ ap (λ b. b || is_one_of qs q) (first q) ∙ or-shift (has s q) (is_one_of ps q) (is_one_of qs q)
    ∙ ap (λ b. has s q || b) (sym (list_any-append (same_path q) ps qs))

-- ---- children that go

-- one child more that goes adds its path
pub gone-more : (p : Path) (es : List Elem) (i : ℕ) (e : Elem) (s t u : PathSet) → i < length es → e ≡ get_or es i e
    → AddsPaths (paths_after p (path_view (take i es))) s t → u ≡ insert (path_after p (element_view e)) tt t
    → AddsPaths (paths_after p (path_view (take (i + 1) es))) s u
gone-more p es i e s t u lt is h more q =
    let next : paths_after p (path_view (take (i + 1) es)) ≡ paths_after p (path_view (take i es)) ++ path_after p (element_view e) ∷ [] =
    ap (λ xs. paths_after p (path_view xs)) (taken-at es i e lt is) ∙ ap (paths_after p) (map-append element_view (take i es) (e ∷ []))
    ∙ map-append (path_after p) (path_view (take i es)) (element_view e ∷ []) in
    adds-more (paths_after p (path_view (take i es))) (path_after p (element_view e)) s t u h more q ∙ ap (λ ps. has s q || is_one_of ps q) (sym next)

-- the paths of children that go, as changes tell them
pub cuts-told : (p : Path) (es : List Element) → told_paths (at_place p (map (λ e. (e ∷ [], tt {0})) es)) ≡ paths_after p es
cuts-told p [] = refl
cuts-told p (e ∷ es) = ap (λ ps. path_after p e ∷ ps) (cuts-told p es)

-- ---- changes of a body

told-last : (ss : List Step) (s : Step) → told_by cuts_in (ss ++ s ∷ []) ≡ told_by cuts_in ss ++ at_place (path_view s.path.items) (cuts_in s.change)
told-last [] s = append-nil (at_place (path_view s.path.items) (cuts_in s.change))
told-last (r ∷ ss) s =
    ap (λ es. at_place (path_view r.path.items) (cuts_in r.change) ++ es) (told-last ss s)
    ∙ sym (append_assoc (at_place (path_view r.path.items) (cuts_in r.change)) (told_by cuts_in ss) (at_place (path_view s.path.items) (cuts_in s.change)))

-- one change more adds the paths that it cuts
pub cuts-more : (ss : List Step) (i : ℕ) (r : Step) (s t u : PathSet) → i < length ss → r ≡ get_or ss i r
    → AddsPaths (told_paths (told_by cuts_in (take i ss))) s t → AddsPaths (told_paths (at_place (path_view r.path.items) (cuts_in r.change))) t u
    → AddsPaths (told_paths (told_by cuts_in (take (i + 1) ss))) s u
cuts-more ss i r s t u lt is h more q =
    let own = at_place (path_view r.path.items) (cuts_in r.change) in
    let next : told_paths (told_by cuts_in (take (i + 1) ss)) ≡ told_paths (told_by cuts_in (take i ss)) ++ told_paths own =
    ap (λ xs. told_paths (told_by cuts_in xs)) (taken-at ss i r lt is) ∙ ap told_paths (told-last (take i ss) r)
    ∙ map-append (λ e. e.0) (told_by cuts_in (take i ss)) own in
    adds-behind (told_paths (told_by cuts_in (take i ss))) (told_paths own) s t u h more q ∙ ap (λ ps. has s q || is_one_of ps q) (sym next)

-- the set of all paths that are cut
pub cuts-all : (ss : List Step) (s t : PathSet) → s ≡ empty → AddsPaths (told_paths (told_by cuts_in ss)) s t → t ≡ from_entries (told_by cuts_in ss)
cuts-all ss s t none h =
    let es = told_by cuts_in ss in
    same_sets t (from_entries es) (λ q.
    h q ∙ ap (λ x. has x q || is_one_of (told_paths es) q) none
    ∙ sym (ap is_some (get-from_entries es q) ∙ is_some-find path_cmp q es))
