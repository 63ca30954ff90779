-- Whether two tries share a path, child by child.
use Rattle.std.proofs.Common.{◌≡◌, ℕ, ◌+◌, ◌<◌, List, [], ◌∷◌, length, get_or, take, Bool, true, false, ◌&&◌, Option, refl, sym, ap, ◌∙◌}
use Rattle.std.specs.Prelude.{not}
use Rattle.std.specs.Bool.{MatchBool}
use Rattle.ssa_model.specs.definitions.Path.{Element, Path, same_path}
use Rattle.ssa_model.specs.definitions.PathMap.{is_empty, listed}
use Rattle.ssa_model.proofs.FittingTables.{no-path}
use Rattle.ssa_model.proofs.Lists.{has-listed}
use Rattle.ssa_path.specs.declared.element.Elem.{Elem}
use Rattle.ssa_path.specs.declared.trie.Trie.{Trie}
use Rattle.ssa_path.specs.declared.trie.Trie.TheViews.{out-Trie}
use Rattle.ssa_path.specs.Children.{child_at, elements, rises}
use Rattle.ssa_path.specs.Meet.{meet}
use Rattle.ssa_path.specs.View.{element_view}
use Rattle.ssa_path.specs.Trie.{is_one_of, paths, paths_below, AreApart, Meet}
use Rattle.ssa_path.proofs.Levels.{any-below, any-level, found, one-level-root, same_path-reading}
use Rattle.ssa_path.proofs.LyingWithin.{by-child, some-there}
use Rattle.ssa_path.proofs.Sets.{has-meet}

-- none of the paths of these children is one of the others'
abbrev pub ShareNone : List (Elem × Trie) → List (Elem × Trie) → Type 0
ShareNone cs ds = (e : Element) (p : Path) → is_one_of (paths_below cs) (e ∷ p) ≡ true → is_one_of (paths_below ds) (e ∷ p) ≡ false

-- one more child none of whose paths is one of the others'
pub apart-more : (cs ds : List (Elem × Trie)) (i : ℕ) (c : Elem × Trie) (place : Option Trie) → i < length cs → c ≡ get_or cs i c → rises (elements ds) ≡ true
    → child_at (element_view c.0) ds ≡ place → ((p : Path) → is_one_of (paths c.1) p ≡ true → found same_path place p ≡ false)
    → ShareNone (take i cs) ds → ShareNone (take (i + 1) cs) ds
apart-more cs ds i c place lt is rise at apart before e p =
    by-child cs i c lt is e p (is_one_of (paths_below ds) (e ∷ p) ≡ false) (before e p) (λ same has.
    any-below same_path same_path-reading e ds p rise ∙ ap (λ x. found same_path x p) (ap (λ f. child_at f ds) same ∙ at) ∙ apart p has)

not-second : (a b : Bool) → (a && b) ≡ false → a ≡ true → b ≡ false
not-second a b h k = ap (λ x. x && b) (sym k) ∙ h

-- neither the place itself nor a path of a child is one of the others
pub apart-all : (t o : Trie) (cs ds : List (Elem × Trie)) → cs ≡ (out-Trie t).below.items → ds ≡ (out-Trie o).below.items
    → ((out-Trie t).here && (out-Trie o).here) ≡ false → ShareNone cs ds → AreApart (paths t) (paths o)
apart-all t o cs ds below other here apart [] h =
    one-level-root o ∙ not-second (out-Trie t).here (out-Trie o).here here (sym (one-level-root t) ∙ h)
apart-all t o cs ds below other here apart (e ∷ p) h =
    any-level same_path same_path-reading o e p ∙ ap (λ l. is_one_of (paths_below l) (e ∷ p)) (sym other)
    ∙ apart e p (ap (λ l. is_one_of (paths_below l) (e ∷ p)) below ∙ sym (any-level same_path same_path-reading t e p) ∙ h)

-- ---- as sets

-- two tries share a path where the meet of their sets has one
pub meet-some : (m n : Trie) (b : Bool) → MatchBool b (Meet (paths m) (paths n)) (AreApart (paths m) (paths n))
    → b ≡ not (is_empty (meet (listed (paths m)) (listed (paths n))))
meet-some m n true h =
    let p = h.0 in
    let there = has-meet (listed (paths m)) (listed (paths n)) p ∙ (λ i. (has-listed (paths m) p ∙ h.1) i && (has-listed (paths n) p ∙ h.2) i) in
    sym (ap not (some-there (meet (listed (paths m)) (listed (paths n))).entries p there))
meet-some m n false h =
    sym (ap not (no-path (meet (listed (paths m)) (listed (paths n))) (λ p.
    has-meet (listed (paths m)) (listed (paths n)) p ∙ neither _ _ (λ k. has-listed (paths n) p ∙ h p (sym (has-listed (paths m) p) ∙ k)))))
  where
    neither : (a b : Bool) → (a ≡ true → b ≡ false) → (a && b) ≡ false
    neither true b k = k refl
    neither false b k = refl
