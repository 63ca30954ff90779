-- A trie, level by level. A reading of paths goes on below the child of its first element: `same_path` and `under` are two.
use Rattle.std.proofs.Common.{◌≡◌, ℕ, ◌+◌, ◌<◌, List, [], ◌∷◌, ◌++◌, length, get_or, drop, map, Bool, true, false, ◌&&◌, ◌||◌, cond, Option, Some, None, refl, sym, ap, ◌∙◌, true≢false}
use Rattle.std.proofs.lemmas.List.{drop_more}
use Rattle.std.proofs.lemmas.List.Folds.{list_any-append}
use Rattle.std.specs.List.{list_any}
use Rattle.std.specs.Prelude.{◌==◌, not}
use Rattle.std.proofs.Common.{arith}
use Rattle.std.proofs.lemmas.Bool.Decides.{nat_tests}
use Rattle.ssa_model.specs.definitions.Path.{Element, Path, element_cmp, path_cmp, same_element, same_path, under}
use Rattle.ssa_path.specs.declared.element.Elem.{Elem}
use Rattle.ssa_path.specs.declared.trie.Trie.{Trie}
use Rattle.ssa_path.specs.declared.trie.Trie.TheOpen.{Trie-F}
use Rattle.ssa_path.specs.declared.trie.Trie.TheViews.{out-Trie, roll-Trie}
use Rattle.ssa_path.specs.declared.trie.Trie.TheFolds.{fold_out-Trie, fold-roll-Trie}
use Rattle.ssa_path.specs.Children.{elements, child_at, rises}
use Rattle.ssa_path.specs.View.{element_view, path_view}
use Rattle.ssa_path.specs.Trie.{Shape, is_one_of, here_path, paths_after, paths_below, paths, shape, shape_step, is_trie, is_filled, has_some, are_filled_tries, IsPlace}
use Rattle.ssa_path.proofs.Orders.{both_first, both_second}
use Rattle.ssa_path.proofs.Searching.{absent-below}
use Rattle.ssa_model.proofs.Basics.{and-false as and_false, or-false as or_false, both-true as both, then_both as then_and}

-- ---- one level

-- other values under the same elements have the same elements
pub elements-map : {A B : Type 0} (f : A → B) (cs : List (Elem × A)) → elements (map (λ c. (c.0, f c.1)) cs) ≡ elements cs
elements-map f [] = refl
elements-map f (c ∷ cs) = ap (λ es. element_view c.0 ∷ es) (elements-map f cs)

-- the shape of a trie that is made: its place, then its children, which have to rise and to be filled
pub shape-made : (x : Trie-F Trie) → shape (roll-Trie x) ≡ (
  here_path x.here ++ paths_below x.below.items,
  rises (elements x.below.items) && are_filled_tries x.below.items,
)
shape-made x =
    let cs = x.below.items in
    let pairs : ◌≡◌ {A = Shape} _ _ = λ i. (here_path x.here ++ paths_below cs, rises (elements-map shape cs i) && are_filled_tries cs) in
    fold-roll-Trie Shape shape_step x ∙ pairs

-- so is the shape of each trie
pub shape-level : (t : Trie) → shape t ≡ (
  here_path (out-Trie t).here ++ paths_below (out-Trie t).below.items,
  rises (elements (out-Trie t).below.items) && are_filled_tries (out-Trie t).below.items,
)
shape-level t =
    let cs = (out-Trie t).below.items in
    let pairs : ◌≡◌ {A = Shape} _ _ = λ i. (here_path (out-Trie t).here ++ paths_below cs, rises (elements-map shape cs i) && are_filled_tries cs) in
    fold_out-Trie Shape shape_step t ∙ pairs

-- the paths of a trie that is made: its place, then its children's
pub paths-made : (x : Trie-F Trie) → paths (roll-Trie x) ≡ here_path x.here ++ paths_below x.below.items
paths-made x = ap (λ s. s.0) (shape-made x)

-- so are the paths of each trie
pub paths-level : (t : Trie) → paths t ≡ here_path (out-Trie t).here ++ paths_below (out-Trie t).below.items
paths-level t = ap (λ s. s.0) (shape-level t)

-- the children of a trie rise, and each is a trie with some path
pub trie-parts : (t : Trie) (cs : List (Elem × Trie)) → cs ≡ (out-Trie t).below.items → is_trie t ≡ true → (rises (elements cs) ≡ true)
    × (are_filled_tries cs ≡ true)
trie-parts t cs e h =
    let parts = sym (ap (λ s. s.1) (shape-level t)) ∙ h in
    rw e (both_first _ _ parts, both_second _ _ parts)

-- children that rise, each a trie with some path, make a trie
pub is_trie-made : (x : Trie-F Trie) → rises (elements x.below.items) ≡ true → are_filled_tries x.below.items ≡ true → is_trie (roll-Trie x) ≡ true
is_trie-made x a b = ap (λ s. s.1) (shape-made x) ∙ both _ _ a b

-- ---- readings

-- below the child of the first element, what is left of the path is read
abbrev pub GoesOn : (Path → Path → Bool) → Type 0
GoesOn R = (e f : Element) (p q : Path) → R (e ∷ p) (f ∷ q) ≡ (same_element e f && R p q)

-- a path is read along another, element by element
pub record IsReading (R : Path → Path → Bool) : Type 0 where
  -- behind one element in both, what is left is read
  pub more : GoesOn R
  -- no path but the root is read along the root
  pub none : (e : Element) (p : Path) → R (e ∷ p) [] ≡ false

-- whether two paths are the same is a reading
pub same_path-reading : IsReading same_path
same_path-reading = record { more = λ e f p q. then_and (element_cmp e f) (path_cmp p q); none = λ e p. refl }

-- whether a path is under another is a reading
pub under-reading : IsReading under
under-reading = record { more = λ e f p q. refl; none = λ e p. refl }

-- what a child holds, if there is one
abbrev pub found : (Path → Path → Bool) → Option Trie → Path → Bool
found R None p = false
found R (Some c) p = list_any (R p) (paths c)

module _ (R : Path → Path → Bool) (more : GoesOn R) where
  and_or : (s a b : Bool) → ((s && a) || (s && b)) ≡ (s && (a || b))
  and_or true a b = refl
  and_or false a b = refl

  after-more : (e f : Element) (ps : List Path) (p : Path) → list_any (R (e ∷ p)) (paths_after f ps) ≡ (same_element e f && list_any (R p) ps)
  after-more e f [] p = sym (and_false _)
  after-more e f (x ∷ ps) p = (λ i. more e f p x i || after-more e f ps p i) ∙ and_or (same_element e f) (R p x) (list_any (R p) ps)

  -- a test that goes on finds a path in the first child, where the path begins with its element, or among the others
  pub child-more : (e : Element) (c : Elem × Trie) (cs : List (Elem × Trie)) (p : Path)
      → list_any (R (e ∷ p)) (paths_below (c ∷ cs)) ≡ ((same_element e (element_view c.0) && list_any (R p) (paths c.1))
      || list_any (R (e ∷ p)) (paths_below cs))
  child-more e c cs p =
      list_any-append (R (e ∷ p)) (paths_after (element_view c.0) (paths c.1)) (paths_below cs)
      ∙ ap (λ b. b || list_any (R (e ∷ p)) (paths_below cs)) (after-more e (element_view c.0) (paths c.1) p)

  found-first : (b : Bool) (c : Trie) (x : Option Trie) (p : Path) → (b ≡ true → x ≡ None)
      → ((b && list_any (R p) (paths c)) || found R x p) ≡ found R (cond b (Some c) x) p
  found-first true c x p h = ap (λ y. list_any (R p) (paths c) || found R y p) (h refl) ∙ or_false _
  found-first false c x p h = refl

  -- a test that goes on goes into the child of the first element
  pub below-more : (e : Element) (cs : List (Elem × Trie)) (p : Path) → rises (elements cs) ≡ true
      → list_any (R (e ∷ p)) (paths_below cs) ≡ found R (child_at e cs) p
  below-more e [] p h = refl
  below-more e (c ∷ cs) p h =
      child-more e c cs p
      ∙ ap (λ b. (same_element e (element_view c.0) && list_any (R p) (paths c.1)) || b) (below-more e cs p (both_second _ _ h))
      ∙ found-first (same_element e (element_view c.0)) c.1 (child_at e cs) p (λ s. absent-below e (element_view c.0) cs s (both_first _ _ h))

module _ (R : Path → Path → Bool) (r : IsReading R) where
  -- among paths with an element in front, a path is read that begins with it and whose rest is read among theirs
  pub any-after : (e f : Element) (ps : List Path) (p : Path) → list_any (R (e ∷ p)) (paths_after f ps) ≡ (same_element e f && list_any (R p) ps)
  any-after = after-more R r.more

  any-here : (b : Bool) (e : Element) (p : Path) → list_any (R (e ∷ p)) (here_path b) ≡ false
  any-here true e p = ap (λ t. t || false) (r.none e p)
  any-here false e p = refl

  -- a path is read in the first child, where it begins with its element, or among the others
  pub any-child : (e : Element) (c : Elem × Trie) (cs : List (Elem × Trie)) (p : Path)
      → list_any (R (e ∷ p)) (paths_below (c ∷ cs)) ≡ ((same_element e (element_view c.0) && list_any (R p) (paths c.1))
      || list_any (R (e ∷ p)) (paths_below cs))
  any-child = child-more R r.more

  -- a path goes into the child of its first element
  pub any-below : (e : Element) (cs : List (Elem × Trie)) (p : Path) → rises (elements cs) ≡ true
      → list_any (R (e ∷ p)) (paths_below cs) ≡ found R (child_at e cs) p
  any-below = below-more R r.more

  -- a path with a first element is read in a trie that is made where it is among the children
  pub any-made : (x : Trie-F Trie) (e : Element) (p : Path) → list_any (R (e ∷ p)) (paths (roll-Trie x)) ≡ list_any (R (e ∷ p)) (paths_below x.below.items)
  any-made x e p =
      ap (list_any (R (e ∷ p))) (paths-made x) ∙ list_any-append (R (e ∷ p)) (here_path x.here) (paths_below x.below.items)
      ∙ ap (λ b. b || list_any (R (e ∷ p)) (paths_below x.below.items)) (any-here x.here e p)

  -- so it is in each trie
  pub any-level : (t : Trie) (e : Element) (p : Path) → list_any (R (e ∷ p)) (paths t) ≡ list_any (R (e ∷ p)) (paths_below (out-Trie t).below.items)
  any-level t e p =
      ap (list_any (R (e ∷ p))) (paths-level t) ∙ list_any-append (R (e ∷ p)) (here_path (out-Trie t).here) (paths_below (out-Trie t).below.items)
      ∙ ap (λ b. b || list_any (R (e ∷ p)) (paths_below (out-Trie t).below.items)) (any-here (out-Trie t).here e p)

  -- a path with a first element is read in the child of the element
  pub any-paths : (t : Trie) (e : Element) (p : Path) → is_trie t ≡ true → list_any (R (e ∷ p)) (paths t) ≡ found R (child_at e (out-Trie t).below.items) p
  any-paths t e p h = any-level t e p ∙ any-below e (out-Trie t).below.items p (trie-parts t _ refl h).0

-- ---- the root of a place

-- behind an element no path is the root
pub one-after-root : (e : Element) (ps : List Path) → is_one_of (paths_after e ps) [] ≡ false
one-after-root e [] = refl
one-after-root e (p ∷ ps) = one-after-root e ps

-- no path of the children is the root
pub one-below-root : (cs : List (Elem × Trie)) → is_one_of (paths_below cs) [] ≡ false
one-below-root [] = refl
one-below-root (c ∷ cs) = list_any-append (same_path []) (paths_after (element_view c.0) (paths c.1)) (paths_below cs)
    ∙ ap (λ b. b || is_one_of (paths_below cs) []) (one-after-root (element_view c.0) (paths c.1)) ∙ one-below-root cs

one-here-root : (b : Bool) → is_one_of (here_path b) [] ≡ b
one-here-root true = refl
one-here-root false = refl

-- the root is a path of a trie that is made where the place itself is in the set
pub one-made-root : (x : Trie-F Trie) → is_one_of (paths (roll-Trie x)) [] ≡ x.here
one-made-root x =
    ap (λ ps. is_one_of ps []) (paths-made x) ∙ list_any-append (same_path []) (here_path x.here) (paths_below x.below.items)
    ∙ (λ i. one-here-root x.here i || one-below-root x.below.items i) ∙ or_false _

-- so it is of each trie
pub one-level-root : (t : Trie) → is_one_of (paths t) [] ≡ (out-Trie t).here
one-level-root t =
    ap (λ ps. is_one_of ps []) (paths-level t) ∙ list_any-append (same_path []) (here_path (out-Trie t).here) (paths_below (out-Trie t).below.items)
    ∙ (λ i. one-here-root (out-Trie t).here i || one-below-root (out-Trie t).below.items i) ∙ or_false _

-- ---- down a path

child-is : (b : Bool) (x c : Trie) (rest : Option Trie) → is_trie x ≡ true → (rest ≡ Some c → is_trie c ≡ true) → cond b (Some x) rest ≡ Some c
    → is_trie c ≡ true
child-is true x c rest here later e = let same : x ≡ c = cc in ap is_trie (sym same) ∙ here
child-is false x c rest here later e = later e

-- a child of filled tries is a trie
pub child-tests : (e : Element) (cs : List (Elem × Trie)) (c : Trie) → are_filled_tries cs ≡ true → child_at e cs ≡ Some c → is_trie c ≡ true
child-tests e [] c h s = cc
child-tests e (x ∷ cs) c h s = child-is (same_element e (element_view x.0)) x.1 c (child_at e cs) (both_first _ _ (both_first _ _ h))
    (child-tests e cs c (both_second _ _ h)) s

-- a child of a trie is a trie
pub is_trie-child : (t : Trie) (e : Element) (c : Trie) → is_trie t ≡ true → child_at e (out-Trie t).below.items ≡ Some c → is_trie c ≡ true
is_trie-child t e c h s = child-tests e (out-Trie t).below.items c (trie-parts t _ refl h).1 s

-- what is left of the path is read at the place as the path is at the start
pub record IsOnWay (start : Trie) (path : Path) (t : Trie) (left : Path) : Type 0 where
  -- the place is a trie
  pub trie : is_trie t ≡ true
  -- the path is one of the start's where what is left of it is one of the place's
  pub same : is_one_of (paths start) path ≡ is_one_of (paths t) left
  -- something is under the path where something is under what is left of it
  pub alike : list_any (under path) (paths start) ≡ list_any (under left) (paths t)

-- what is left of a path is the element at the place, and then what is left behind it
pub path_view-drop : (es : List Elem) (i : ℕ) (e : Elem) → i < length es → e ≡ get_or es i e
    → path_view (drop i es) ≡ element_view e ∷ path_view (drop (i + 1) es)
path_view-drop es i e lt is = ap path_view (drop_more es i e lt) ∙ ap (λ x. element_view x ∷ path_view (drop (i + 1) es)) (sym is)

-- the child of the next element is on the way
pub way-more : (start : Trie) (path : Path) (t c : Trie) (e : Element) (p left : Path) → left ≡ e ∷ p → child_at e (out-Trie t).below.items ≡ Some c
    → IsOnWay start path t left → IsOnWay start path c p
way-more start path t c e p left is s h = record {
  trie = is_trie-child t e c h.trie s;
  same = h.same ∙ ap (is_one_of (paths t)) is ∙ any-paths same_path same_path-reading t e p h.trie ∙ ap (λ x. found same_path x p) s;
  alike = h.alike ∙ ap (λ l. list_any (under l) (paths t)) is ∙ any-paths under under-reading t e p h.trie ∙ ap (λ x. found under x p) s;
}

-- where there is no child of the next element, neither the path is there nor anything under it
pub way-none : (start : Trie) (path : Path) (t : Trie) (e : Element) (p left : Path) → left ≡ e ∷ p → child_at e (out-Trie t).below.items ≡ None
    → IsOnWay start path t left
    → (is_one_of (paths start) path ≡ false) × (list_any (under path) (paths start) ≡ false)
way-none start path t e p left is s h = (
  h.same ∙ ap (is_one_of (paths t)) is ∙ any-paths same_path same_path-reading t e p h.trie ∙ ap (λ x. found same_path x p) s,
  h.alike ∙ ap (λ l. list_any (under l) (paths t)) is ∙ any-paths under under-reading t e p h.trie ∙ ap (λ x. found under x p) s,
)

-- ---- whether a place has paths

-- of two lists together there is some where there is of one
pub some-append : {A : Type 0} (xs ys : List A) → has_some (xs ++ ys) ≡ (has_some xs || has_some ys)
some-append [] ys = refl
some-append (x ∷ xs) ys = refl

some-after : (e : Element) (ps : List Path) → has_some (paths_after e ps) ≡ has_some ps
some-after e [] = refl
some-after e (p ∷ ps) = refl

some-here : (b : Bool) → has_some (here_path b) ≡ b
some-here true = refl
some-here false = refl

some-below : (cs : List (Elem × Trie)) → are_filled_tries cs ≡ true → has_some (paths_below cs) ≡ has_some {A = Elem × Trie} cs
some-below [] h = refl
some-below (c ∷ cs) h =
    let filled : has_some (paths c.1) ≡ true = both_second (is_trie c.1) _ (both_first _ _ h) in
    some-append (paths_after (element_view c.0) (paths c.1)) (paths_below cs)
    ∙ ap (λ b. b || has_some (paths_below cs)) (some-after (element_view c.0) (paths c.1) ∙ filled)

-- a trie has some path where its place is in the set, or where it has children
pub filled-is : (t : Trie) → is_trie t ≡ true → is_filled t ≡ ((out-Trie t).here || has_some {A = Elem × Trie} (out-Trie t).below.items)
filled-is t h =
    let cs = (out-Trie t).below.items in
    ap has_some (paths-level t) ∙ some-append (here_path (out-Trie t).here) (paths_below cs)
    ∙ (λ i. some-here (out-Trie t).here i || some-below cs (trie-parts t _ refl h).1 i)

-- some path is under the root where there is any
pub any-root : (ps : List Path) → list_any (under []) ps ≡ has_some ps
any-root [] = refl
any-root (p ∷ ps) = refl

-- what holds a path is filled
pub some-one : (ps : List Path) (p : Path) → is_one_of ps p ≡ true → has_some ps ≡ true
some-one [] p h = h
some-one (q ∷ ps) p h = refl

-- a list without any path is empty
pub some-none : (ps : List Path) → has_some ps ≡ false → ps ≡ []
some-none [] h = refl
some-none (p ∷ ps) h = absurd (true≢false h)

-- where nothing is left of the path, the place is that of the path
pub way-end : (start : Trie) (path : Path) (t : Trie) (left : Path) → left ≡ [] → IsOnWay start path t left → IsPlace start path t
way-end start path t left is h = record {
  trie = h.trie;
  same = h.same ∙ ap (is_one_of (paths t)) is;
  alike = h.alike ∙ ap (λ l. list_any (under l) (paths t)) is ∙ any-root (paths t);
}

-- there are children where their number is not zero
pub some-long : (cs : List (Elem × Trie)) → has_some {A = Elem × Trie} cs ≡ not (length cs == 0)
some-long [] = refl
some-long (c ∷ cs) = let long : (length (c ∷ cs) == 0) ≡ false = grind (arith, nat_tests) in ap not (sym long)
