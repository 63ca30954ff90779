-- A path put into a trie.
use Rattle.std.proofs.Common.{◌≡◌, ℕ, ◌-◌, ◌<◌, List, [], ◌∷◌, ◌++◌, length, get_or, take, drop, Bool, true, false, ◌&&◌, ◌||◌, refl, sym, ap, ◌∙◌, arith, length-drop}
use Rattle.std.proofs.lemmas.List.{take_all, take-append-drop}
use Rattle.std.proofs.lemmas.List.Folds.{list_any-append}
use Rattle.std.specs.Cmp.{tied_itself}
use Rattle.std.specs.Ordering.{is_eq}
use Rattle.ssa_model.specs.definitions.Path.{Element, Path, path_cmp_total, same_element, same_path}
use Rattle.ssa_path.specs.declared.element.Elem.{Elem}
use Rattle.ssa_path.specs.declared.trie.Trie.{Trie}
use Rattle.ssa_path.specs.declared.trie.Trie.TheOpen.{Trie-F}
use Rattle.ssa_path.specs.declared.trie.Trie.TheViews.{out-Trie, roll-Trie}
use Rattle.ssa_path.specs.Children.{elements, rises}
use Rattle.ssa_path.specs.View.{element_view, path_view}
use Rattle.ssa_path.specs.Trie.{is_one_of, paths_after, paths_below, paths, shape, is_trie, is_filled, are_filled_tries, IsOnly, IsInserted, IsGathered}
use Rattle.ssa_path.proofs.Levels.{same_path-reading, any-after, any-made, any-level, one-made-root, one-level-root, is_trie-made, trie-parts, some-one}
use Rattle.ssa_path.proofs.Lists.{elements-append, one-between, filled-between, filled-without, same-shape, shapes, shapes-append}
use Rattle.ssa_model.proofs.Fitting.{same_element-true}
use Rattle.ssa_model.proofs.Basics.{or-false as or_false, both-true as both}

-- ---- a path's first element and the rest, as `[first, rest @ ..]` has them

rest-all : (es : List Elem) → 0 < length es → take (length es - 1) (drop 1 es) ≡ drop 1 es
rest-all es lt = take_all (length es - 1) (drop 1 es) (let n = length-drop 1 es in omega arith)

view-second : (es : List Elem) (e : Elem) → 0 < length es → e ≡ get_or es 0 e → path_view es ≡ element_view e ∷ path_view (drop 1 es)
view-second [] e lt is = absurd (omega arith)
view-second (x ∷ es) e lt is = ap (λ y. element_view y ∷ path_view es) (sym is)

-- a path that isn't empty is its first element and the others
pub view-first : (es : List Elem) (e : Elem) → 0 < length es → e ≡ get_or es 0 e → path_view es ≡ element_view e ∷ path_view (take (length es - 1) (drop 1 es))
view-first es e lt is = view-second es e lt is ∙ ap (λ r. element_view e ∷ path_view r) (sym (rest-all es lt))

-- a path of no elements is the root
pub view-none : (es : List Elem) → length es < 1 → path_view es ≡ []
view-none [] lt = refl
view-none (x ∷ es) lt = absurd (omega arith)

-- ---- a child put where it may be put

-- with one more in its gap, children have their own paths and those of the new one
pub gathered-at : (cs ds : List (Elem × Trie)) (e : Element) (t : Trie) (i : ℕ) (c : Elem × Trie) → ds ≡ take i cs ++ c ∷ drop i cs → element_view c.0 ≡ e
    → c.1 ≡ t
    → rises (elements (take i cs) ++ e ∷ elements (drop i cs)) ≡ true → is_trie t ≡ true → is_filled t ≡ true → are_filled_tries cs ≡ true
    → IsGathered cs e t ds
gathered-at cs ds e t i c is element_is child_is between trie filled tries =
    let whole = take-append-drop i cs in
    record {
      paths_are = λ p. ap (λ l. is_one_of (paths_below l) p) is ∙ one-between (take i cs) (drop i cs) c p
          ∙ (λ j. is_one_of (paths_after (element_is j) (paths (child_is j))) p || is_one_of (paths_below (whole j)) p);
      risen = ap (λ l. rises (elements l)) is ∙ ap rises (elements-append (take i cs) (c ∷ drop i cs))
          ∙ ap (λ s. rises (elements (take i cs) ++ s ∷ elements (drop i cs))) element_is ∙ between;
      tries = ap are_filled_tries is ∙ filled-between (take i cs) (drop i cs) c (ap is_trie child_is ∙ trie) (ap is_filled child_is
          ∙ filled) (ap are_filled_tries whole ∙ tries);
    }

-- ---- the trie of one path

and_then : (e f : Element) (p q : Path) → same_path (e ∷ p) (f ∷ q) ≡ (same_element e f && same_path p q)
and_then e f p q = same_path-reading.more e f p q

-- a place alone is the trie of the root
pub only-root : (x : Trie-F Trie) (path : Path) → x.here ≡ true → x.below.items ≡ [] → path ≡ [] → IsOnly path (roll-Trie x)
only-root x path here below is = record {
  paths_are = λ p. held p ∙ ap (same_path p) (sym is);
  trie = is_trie-made x (ap (λ l. rises (elements l)) below) (ap are_filled_tries below);
  filled = some-one (paths (roll-Trie x)) [] (one-made-root x ∙ here);
}
  where
    held : (p : Path) → is_one_of (paths (roll-Trie x)) p ≡ same_path p []
    held [] = one-made-root x ∙ here
    held (e ∷ p) = any-made same_path same_path-reading x e p ∙ ap (λ l. is_one_of (paths_below l) (e ∷ p)) below

-- a place with one child, which is the trie of a rest, is the trie of the path
pub only-made : (x : Trie-F Trie) (u : Elem × Trie) (path rest : Path) → x.here ≡ false → x.below.items ≡ u ∷ [] → path ≡ element_view u.0 ∷ rest
    → IsOnly rest u.1 → IsOnly path (roll-Trie x)
only-made x u path rest here below is h = record {
  paths_are = λ p. held p ∙ ap (same_path p) (sym is);
  trie = is_trie-made x (ap (λ l. rises (elements l)) below) (ap are_filled_tries below ∙ both _ _ (both _ _ h.trie h.filled) refl);
  filled = some-one (paths (roll-Trie x)) path (held path ∙ ap (same_path path) (sym is) ∙ ap is_eq (tied_itself path_cmp_total path));
}
  where
    held : (p : Path) → is_one_of (paths (roll-Trie x)) p ≡ same_path p (element_view u.0 ∷ rest)
    held [] = one-made-root x ∙ here
    held (e ∷ p) =
        any-made same_path same_path-reading x e p
        ∙ ap (λ l. is_one_of (paths_below l) (e ∷ p)) below
        ∙ list_any-append (same_path (e ∷ p)) (paths_after (element_view u.0) (paths u.1)) []
        ∙ or_false _
        ∙ any-after same_path same_path-reading e (element_view u.0) (paths u.1) p
        ∙ ap (λ b. same_element e (element_view u.0) && b) (h.paths_are p)
        ∙ sym (and_then e (element_view u.0) p rest)

-- ---- one path more

-- a trie with just one path more is the trie with the path put in
pub inserted : (n m : Trie) (path : Path) → ((p : Path) → is_one_of (paths m) p ≡ (same_path p path || is_one_of (paths n) p)) → is_trie m ≡ true
    → IsInserted n path m
inserted n m path held trie = record {
  paths_are = held;
  trie = trie;
  filled = some-one (paths m) path (held path ∙ ap (λ o. is_eq o || is_one_of (paths n) path) (tied_itself path_cmp_total path));
}

-- the root itself
pub inserted-root : (n : Trie) (x : Trie-F Trie) (path : Path) → x.here ≡ true → x.below.items ≡ (out-Trie n).below.items → path ≡ [] → is_trie n ≡ true
    → IsInserted n path (roll-Trie x)
inserted-root n x path here below is trie =
    let parts = trie-parts n x.below.items below trie in
    inserted n (roll-Trie x) path (λ p. held p ∙ ap (λ y. same_path p y || is_one_of (paths n) p) (sym is)) (is_trie-made x parts.0 parts.1)
  where
    held : (p : Path) → is_one_of (paths (roll-Trie x)) p ≡ (same_path p [] || is_one_of (paths n) p)
    held [] = one-made-root x ∙ here
    held (e ∷ p) = any-made same_path same_path-reading x e p ∙ ap (λ l. is_one_of (paths_below l) (e ∷ p)) below
        ∙ sym (any-level same_path same_path-reading n e p)

-- what a place holds below is what another holds below, and one path more
pub inserted-below : (n : Trie) (x : Trie-F Trie) (f : Element) (rest path : Path) → x.here ≡ (out-Trie n).here → path ≡ f ∷ rest
    → ((e : Element) (p : Path) → is_one_of (paths_below x.below.items) (e ∷ p)
    ≡ ((same_element e f && same_path p rest) || is_one_of (paths_below (out-Trie n).below.items) (e ∷ p)))
    → rises (elements x.below.items) ≡ true → are_filled_tries x.below.items ≡ true → IsInserted n path (roll-Trie x)
inserted-below n x f rest path here is below risen tries =
    inserted n (roll-Trie x) path (λ p. held p ∙ ap (λ y. same_path p y || is_one_of (paths n) p) (sym is)) (is_trie-made x risen tries)
  where
    held : (p : Path) → is_one_of (paths (roll-Trie x)) p ≡ (same_path p (f ∷ rest) || is_one_of (paths n) p)
    held [] = one-made-root x ∙ here ∙ sym (one-level-root n)
    held (e ∷ p) =
        any-made same_path same_path-reading x e p ∙ below e p
        ∙ (λ i. sym (and_then e f p rest) i || sym (any-level same_path same_path-reading n e p) i)

-- a new child with the rest of the path
pub inserted-new : (n : Trie) (x : Trie-F Trie) (f : Element) (rest path : Path) (u : Trie) → x.here ≡ (out-Trie n).here → path ≡ f ∷ rest → IsOnly rest u
    → IsGathered (out-Trie n).below.items f u x.below.items → IsInserted n path (roll-Trie x)
inserted-new n x f rest path u here is only g =
    inserted-below n x f rest path here is
    (λ e p.
    g.paths_are (e ∷ p)
    ∙ ap (λ b. b || is_one_of (paths_below (out-Trie n).below.items) (e ∷ p)) (any-after same_path same_path-reading e f (paths u) p
    ∙ ap (λ b. same_element e f && b) (only.paths_are p)))
    g.risen g.tries

-- one test with either of two, or else a third, is it with the first, or with the second, or else the third
pub spread : (e a b r : Bool) → ((e && (a || b)) || r) ≡ ((e && a) || ((e && b) || r))
spread true true b r = refl
spread true false b r = refl
spread false a b r = refl

-- a child that took the rest of the path, among the others
pub inserted-child : (n : Trie) (x : Trie-F Trie) (f : Element) (rest path : Path) (front left : List (Elem × Trie)) (d : Elem) (c m : Trie)
    → x.here ≡ (out-Trie n).here → path ≡ f ∷ rest → is_trie n ≡ true
    → same_element f (element_view d) ≡ true → (out-Trie n).below.items ≡ front ++ (d, c) ∷ left → x.below.items ≡ front ++ (d, m) ∷ left
    → IsInserted c rest m → IsInserted n path (roll-Trie x)
inserted-child n x f rest path front left d c m here is trie tie old new h =
    let same : f ≡ element_view d = same_element-true f (element_view d) tie in
    let parts = trie-parts n (front ++ (d, c) ∷ left) (sym old) trie in
    let named : elements (front ++ (d, m) ∷ left) ≡ elements (front ++ (d, c) ∷ left) = elements-append front ((d, m) ∷ left)
    ∙ sym (elements-append front ((d, c) ∷ left)) in
    let R = same_path-reading in
    inserted-below n x f rest path here is
    (λ e p.
    ap (λ l. is_one_of (paths_below l) (e ∷ p)) new
    ∙ one-between front left (d, m) (e ∷ p)
    ∙ ap (λ b. b || is_one_of (paths_below (front ++ left)) (e ∷ p)) (any-after same_path R e (element_view d) (paths m) p
    ∙ ap (λ b. same_element e (element_view d) && b) (h.paths_are p))
    ∙ spread (same_element e (element_view d)) (same_path p rest) (is_one_of (paths c) p) (is_one_of (paths_below (front ++ left)) (e ∷ p))
    ∙ (λ i. (same_element e (sym same i) && same_path p rest)
    || (sym (any-after same_path R e (element_view d) (paths c) p) i || is_one_of (paths_below (front ++ left)) (e ∷ p)))
    ∙ ap (λ b. (same_element e f && same_path p rest) || b) (sym (ap (λ l. is_one_of (paths_below l) (e ∷ p)) old ∙ one-between front left (d, c) (e ∷ p))))
    (ap (λ l. rises (elements l)) new ∙ ap rises named ∙ parts.0)
    (ap are_filled_tries new ∙ filled-between front left (d, m) h.trie h.filled (filled-without front left (d, c) parts.1))

-- a child that stayed as it was, among the others
pub same-child : (n : Trie) (x : Trie-F Trie) (front left : List (Elem × Trie)) (d : Elem) (c m : Trie) → x.here ≡ (out-Trie n).here
    → (out-Trie n).below.items ≡ front ++ (d, c) ∷ left → x.below.items ≡ front ++ (d, m) ∷ left → shape m ≡ shape c → shape (roll-Trie x) ≡ shape n
same-child n x front left d c m here old new h =
    same-shape x n here
    (ap shapes new ∙ shapes-append front ((d, m) ∷ left) ∙ ap (λ s. shapes front ++ (element_view d, s) ∷ shapes left) h
    ∙ sym (ap shapes old ∙ shapes-append front ((d, c) ∷ left)))
