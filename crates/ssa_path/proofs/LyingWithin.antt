-- One trie within another, child by child.
use Rattle.std.proofs.Common.{◌≡◌, ℕ, ◌+◌, ◌<◌, List, [], ◌∷◌, ◌++◌, length, get_or, take, drop, Bool, true, false, ◌&&◌, ◌||◌, Some, None, refl, sym, ap, ◌∙◌, true≢false}
use Rattle.std.proofs.lemmas.List.Folds.{list_any-append}
use Rattle.std.specs.Prelude.{not, is_some}
use Rattle.std.specs.Bool.{MatchBool}
use Rattle.std.specs.FinMap.Entries.{find}
use Rattle.ssa_model.specs.definitions.Path.{Element, Path, path_cmp, same_element, same_path}
use Rattle.ssa_model.specs.definitions.PathMap.{is_empty, listed, minus}
use Rattle.ssa_model.proofs.FittingTables.{no-path}
use Rattle.ssa_model.proofs.PathMaps.{has-minus, same_path-itself}
use Rattle.ssa_path.specs.declared.element.Elem.{Elem}
use Rattle.ssa_path.specs.declared.trie.Trie.{Trie}
use Rattle.ssa_path.specs.declared.trie.Trie.TheViews.{out-Trie}
use Rattle.ssa_path.specs.Children.{child_at, elements, rises}
use Rattle.ssa_path.specs.View.{element_view}
use Rattle.ssa_path.specs.Trie.{is_one_of, paths, paths_after, paths_below, has_some, is_trie, is_filled, Exceeds, IsWithin}
use Rattle.ssa_path.proofs.Levels.{any-after, any-below, any-level, found, one-level-root, same_path-reading, trie-parts}
use Rattle.ssa_path.proofs.Lists.{one-between, parted, taken-at, paths_below-append}
use Rattle.ssa_path.proofs.Orders.{both_first, both_second}
use Rattle.ssa_model.proofs.Tables.{element-itself as same_element-itself}
use Rattle.ssa_model.proofs.Fitting.{same_element-true}
use Rattle.ssa_model.proofs.Lists.{has-listed}
use Rattle.ssa_model.proofs.Basics.{or-false as or_false, both-true as both}

-- each path of these children is one of the others' too
abbrev pub AreWithin : List (Elem × Trie) → List (Elem × Trie) → Type 0
AreWithin cs ds = (e : Element) (p : Path) → is_one_of (paths_below cs) (e ∷ p) ≡ true → is_one_of (paths_below ds) (e ∷ p) ≡ true

-- the paths of a child, each behind its element
in-child : (e f : Element) (ps : List Path) (p : Path) → is_one_of (paths_after f ps) (e ∷ p) ≡ (same_element e f && is_one_of ps p)
in-child = any-after same_path same_path-reading

-- the others' child of an element has what they have behind it
at-child : (e : Element) (ds : List (Elem × Trie)) (place : Trie) (p : Path) → rises (elements ds) ≡ true → child_at e ds ≡ Some place
    → is_one_of (paths_below ds) (e ∷ p) ≡ is_one_of (paths place) p
at-child e ds place p rise at = any-below same_path same_path-reading e ds p rise ∙ ap (λ x. found same_path x p) at

or-by : (a b : Bool) (Q : Type 0) → (a || b) ≡ true → (a ≡ true → Q) → (b ≡ true → Q) → Q
or-by true b Q h f g = f refl
or-by false b Q h f g = g h

-- a path of the first children up to a place is one of those before it, or of the one there
pub by-child : (cs : List (Elem × Trie)) (i : ℕ) (c : Elem × Trie) → i < length cs → c ≡ get_or cs i c → (e : Element) (p : Path) (Q : Type 0)
    → (is_one_of (paths_below (take i cs)) (e ∷ p) ≡ true → Q) → (e ≡ element_view c.0 → is_one_of (paths c.1) p ≡ true → Q)
    → is_one_of (paths_below (take (i + 1) cs)) (e ∷ p) ≡ true → Q
by-child cs i c lt is e p Q before here h =
    let f = element_view c.0 in
    let split = ap (λ l. is_one_of (paths_below l) (e ∷ p)) (taken-at cs i c lt is)
    ∙ ap (λ l. is_one_of l (e ∷ p)) (paths_below-append (take i cs) (c ∷ []))
    ∙ list_any-append (same_path (e ∷ p)) (paths_below (take i cs)) (paths_below (c ∷ [])) in
    let last = list_any-append (same_path (e ∷ p)) (paths_after f (paths c.1)) [] ∙ or_false _ ∙ in-child e f (paths c.1) p in
    or-by (is_one_of (paths_below (take i cs)) (e ∷ p)) _ Q (sym split ∙ h) before (λ k.
    let both = sym last ∙ k in
    here (same_element-true e f (both_first (same_element e f) (is_one_of (paths c.1) p) both)) (both_second (same_element e f) (is_one_of (paths c.1) p) both))

-- one more child whose paths are the others' too
pub within-more : (cs ds : List (Elem × Trie)) (i : ℕ) (c : Elem × Trie) (place : Trie) → i < length cs → c ≡ get_or cs i c → rises (elements ds) ≡ true
    → child_at (element_view c.0) ds ≡ Some place → IsWithin (paths c.1) (paths place) → AreWithin (take i cs) ds → AreWithin (take (i + 1) cs) ds
within-more cs ds i c place lt is rise at within before e p =
    by-child cs i c lt is e p (is_one_of (paths_below ds) (e ∷ p) ≡ true) (before e p)
    (λ same has. at-child e ds place p rise (ap (λ x. child_at x ds) same ∙ at) ∙ within p has)

-- a path of a child is one of the trie's behind the child's element
child-has : (t : Trie) (cs : List (Elem × Trie)) (i : ℕ) (c : Elem × Trie) (p : Path) → cs ≡ (out-Trie t).below.items → i < length cs → c ≡ get_or cs i c
    → is_one_of (paths c.1) p ≡ true → is_one_of (paths t) (element_view c.0 ∷ p) ≡ true
child-has t cs i c p below lt is has =
    let e = element_view c.0 in
    any-level same_path same_path-reading t e p ∙ ap (λ l. is_one_of (paths_below l) (e ∷ p)) (sym below ∙ parted cs i c lt is)
    ∙ one-between (take i cs) (drop (i + 1) cs) c (e ∷ p)
    ∙ ap (λ b. b || is_one_of (paths_below (take i cs ++ drop (i + 1) cs)) (e ∷ p)) (in-child e e (paths c.1) p ∙ both _ _ (same_element-itself e) has)

-- where there are paths, there is one of them
pub some-path : (ps : List Path) → has_some ps ≡ true → (p : Path) × (is_one_of ps p ≡ true)
some-path [] h = absurd (true≢false (sym h))
some-path (p ∷ ps) h = (p, ap (λ b. b || is_one_of ps p) (same_path-itself p))

-- a child of an element that the others have not has a path that they have not
pub exceeds-none : (t o : Trie) (cs : List (Elem × Trie)) (i : ℕ) (c : Elem × Trie) → cs ≡ (out-Trie t).below.items → i < length cs → c ≡ get_or cs i c
    → is_filled c.1 ≡ true → is_trie o ≡ true
    → child_at (element_view c.0) (out-Trie o).below.items ≡ None → Exceeds (paths t) (paths o)
exceeds-none t o cs i c below lt is filled trie none =
    let e = element_view c.0 in
    let some = some-path (paths c.1) filled in (
      e ∷ some.0,
      child-has t cs i c some.0 below lt is some.1,
      any-level same_path same_path-reading o e some.0 ∙ any-below same_path same_path-reading e (out-Trie o).below.items some.0 (trie-parts o _ refl trie).0
          ∙ ap (λ x. found same_path x some.0) none,
    )

-- a path of a child that their child has or has not is one that they have or have not
pub told-child : (b : Bool) (t o : Trie) (cs : List (Elem × Trie)) (i : ℕ) (c : Elem × Trie) (place : Trie) → cs ≡ (out-Trie t).below.items → i < length cs
    → c ≡ get_or cs i c → is_trie o ≡ true
    → child_at (element_view c.0) (out-Trie o).below.items ≡ Some place → (p : Path) × (is_one_of (paths c.1) p ≡ true) × (is_one_of (paths place) p ≡ b)
    → (p : Path) × (is_one_of (paths t) p ≡ true) × (is_one_of (paths o) p ≡ b)
told-child b t o cs i c place below lt is trie at told =
    let e = element_view c.0 in (
      e ∷ told.0,
      child-has t cs i c told.0 below lt is told.1,
      any-level same_path same_path-reading o e told.0 ∙ at-child e (out-Trie o).below.items place told.0 (trie-parts o _ refl trie).0 at ∙ told.2,
    )

-- all children and the place itself are within
pub within-all : (t o : Trie) (cs ds : List (Elem × Trie)) → cs ≡ (out-Trie t).below.items → ds ≡ (out-Trie o).below.items
    → ((out-Trie t).here ≡ true → (out-Trie o).here ≡ true) → AreWithin cs ds → IsWithin (paths t) (paths o)
within-all t o cs ds below other here within [] h = one-level-root o ∙ here (sym (one-level-root t) ∙ h)
within-all t o cs ds below other here within (e ∷ p) h =
    any-level same_path same_path-reading o e p ∙ ap (λ l. is_one_of (paths_below l) (e ∷ p)) (sym other)
    ∙ within e p (ap (λ l. is_one_of (paths_below l) (e ∷ p)) below ∙ sym (any-level same_path same_path-reading t e p) ∙ h)

-- a place with nothing below it is within another, or not, as that is there
pub within-leaf : (t o : Trie) → (out-Trie t).below.items ≡ [] → (out-Trie t).here ≡ true → (b : Bool) → (out-Trie o).here ≡ b
    → MatchBool b (IsWithin (paths t) (paths o)) (Exceeds (paths t) (paths o))
within-leaf t o bare here true other =
    within-all t o [] (out-Trie o).below.items (sym bare) refl (λ h. other) (λ e p h. absurd (true≢false (sym h)))
within-leaf t o bare here false other = ([], one-level-root t ∙ here, one-level-root o ∙ other)

-- ---- as sets

-- a set with a path is not empty
pub some-there : (es : List (Path × Unit {0})) (p : Path) → is_some (find path_cmp p es) ≡ true → elim es [ [] ↦ true | e ∷ rest ↦ false ] ≡ false
some-there [] p h = absurd (true≢false (sym h))
some-there (e ∷ es) p h = refl

and-not : (a b : Bool) → (a ≡ true → b ≡ true) → (a && not b) ≡ false
and-not true b h = ap not (h refl)
and-not false b h = refl

-- one trie lies within another where nothing is left of its paths without the other's
pub within-empty : (m n : Trie) (b : Bool) → MatchBool b (IsWithin (paths m) (paths n)) (Exceeds (paths m) (paths n))
    → b ≡ is_empty (minus (listed (paths m)) (listed (paths n)))
within-empty m n true h =
    sym (no-path (minus (listed (paths m)) (listed (paths n))) (λ p.
    has-minus (listed (paths m)) (listed (paths n)) p
    ∙ and-not _ _ (λ k. has-listed (paths n) p ∙ h p (sym (has-listed (paths m) p) ∙ k))))
within-empty m n false h =
    let p = h.0 in
    let there = has-minus (listed (paths m)) (listed (paths n)) p ∙ (λ i. (has-listed (paths m) p ∙ h.1) i && not ((has-listed (paths n) p ∙ h.2) i)) in
    sym (some-there (minus (listed (paths m)) (listed (paths n))).entries p there)
