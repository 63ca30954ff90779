-- Paths taken out of a trie: a child stays with fewer of them, or goes where it has none left.
use Rattle.std.proofs.Common.{◌≡◌, ℕ, ◌+◌, ◌<◌, List, [], ◌∷◌, ◌++◌, length, get_or, set, drop, take, Bool, true, false, not, ◌&&◌, ◌||◌, cond, Some, None, refl, sym, ap, ◌∙◌, length-set, get_or-set_same, arith}
use Rattle.std.proofs.Math.Bool.{and-true}
use Rattle.std.proofs.lemmas.List.{take-set, drop-set-lt}
use Rattle.ssa_model.specs.definitions.Path.{Element, Path, same_element, same_path}
use Rattle.ssa_model.proofs.PathMaps.{same_path-true}
use Rattle.ssa_path.specs.declared.element.Elem.{Elem}
use Rattle.ssa_path.specs.declared.trie.Trie.{Trie}
use Rattle.ssa_path.specs.declared.trie.Trie.TheOpen.{Trie-F}
use Rattle.ssa_path.specs.declared.trie.Trie.TheViews.{out-Trie, roll-Trie, out-roll-Trie}
use Rattle.ssa_path.specs.Children.{elements, child_at, is_below, rises, IsChildAt}
use Rattle.ssa_path.specs.View.{element_view}
use Rattle.ssa_path.specs.Trie.{is_one_of, paths_after, paths_below, paths, is_trie, is_filled, are_filled_tries, IsRemoved}
use Rattle.ssa_path.proofs.Orders.{both_first, both_second}
use Rattle.ssa_path.proofs.Searching.{absent-below, apart-before, below-middle, child-absent, child-found}
use Rattle.ssa_path.proofs.Lists.{parted, parted-set, elements-append, one-between, filled-between, filled-without}
use Rattle.ssa_path.proofs.Levels.{same_path-reading, any-after, any-below, any-level, any-made, found, is_trie-made, one-below-root, one-level-root, one-made-root, some-none, trie-parts}
use Rattle.ssa_model.proofs.Basics.{both-true as both, or-false as or_false}
use Rattle.ssa_model.proofs.Fitting.{same_element-true}

abbrev Children : Type 0
Children = List (Elem × Trie)

-- ---- the order of elements

below-without : (f d : Element) (es fs : List Element) → is_below f (es ++ d ∷ fs) ≡ true → is_below f (es ++ fs) ≡ true
below-without f d [] fs h = both_second _ _ h
below-without f d (e ∷ es) fs h = both _ _ (both_first _ _ h) (below-without f d es fs (both_second _ _ h))

-- elements rise without one of them
pub rises-without : (d : Element) (es fs : List Element) → rises (es ++ d ∷ fs) ≡ true → rises (es ++ fs) ≡ true
rises-without d [] fs h = both_second _ _ h
rises-without d (e ∷ es) fs h = both _ _ (below-without e d es fs (both_first _ _ h)) (rises-without d es fs (both_second _ _ h))

-- ---- the child at a place

-- the paths below an element are those of the child at its place
pub found-one : (e : Element) (cs : Children) (i : ℕ) (c : Elem × Trie) (p : Path)
    → rises (elements cs) ≡ true → i < length cs → c ≡ get_or cs i c → same_element e (element_view c.0) ≡ true
    → is_one_of (paths_below cs) (e ∷ p) ≡ is_one_of (paths c.1) p
found-one e cs i c p h lt is s =
    let named = sym (ap (λ (x : Elem × Trie). same_element e (element_view x.0)) is) ∙ s in
    let at = child-found e cs i c h lt named ∙ ap (λ (x : Elem × Trie). Some x.1) (sym is) in
    any-below same_path same_path-reading e cs p h ∙ ap (λ x. found same_path x p) at

-- without its child an element has none
pub absent-without : (e : Element) (front left : Children) (d : Elem × Trie)
    → rises (elements (front ++ d ∷ left)) ≡ true → same_element e (element_view d.0) ≡ true → child_at e (front ++ left) ≡ None
absent-without e [] left d h s = absent-below e (element_view d.0) left s (both_first _ _ h)
absent-without e (c ∷ front) left d h s =
    let lower = ap (is_below (element_view c.0)) (sym (elements-append front (d ∷ left))) ∙ both_first _ _ h in
    let less = below-middle (element_view c.0) (element_view d.0) (elements front) (elements left) lower in
    ap (λ b. cond b (Some c.1) (child_at e (front ++ left))) (apart-before e (element_view c.0) (element_view d.0) s less)
    ∙ absent-without e front left d (both_second _ _ h) s

-- ---- it stays

-- the elements rise with another trie at a place
pub set-rises : (cs : Children) (i : ℕ) (c : Elem × Trie) (m : Trie)
    → i < length cs → c ≡ get_or cs i c → rises (elements cs) ≡ true → rises (elements (set cs i (c.0, m))) ≡ true
set-rises cs i c m lt is h =
    let front = take i cs in
    let left = drop (i + 1) cs in
    let named : elements (front ++ (c.0, m) ∷ left) ≡ elements (front ++ c ∷ left) =
    elements-append front ((c.0, m) ∷ left) ∙ sym (elements-append front (c ∷ left)) in
    ap (λ l. rises (elements l)) (parted-set cs i (c.0, m) lt) ∙ ap rises named ∙ ap (λ l. rises (elements l)) (sym (parted cs i c lt is)) ∙ h

-- the children are tries with paths with another such trie at a place
pub set-tries : (cs : Children) (i : ℕ) (c : Elem × Trie) (m : Trie)
    → i < length cs → c ≡ get_or cs i c → is_trie m ≡ true → is_filled m ≡ true → are_filled_tries cs ≡ true
    → are_filled_tries (set cs i (c.0, m)) ≡ true
set-tries cs i c m lt is trie filled h =
    let others = filled-without (take i cs) (drop (i + 1) cs) c (ap are_filled_tries (sym (parted cs i c lt is)) ∙ h) in
    ap are_filled_tries (parted-set cs i (c.0, m) lt) ∙ filled-between (take i cs) (drop (i + 1) cs) (c.0, m) trie filled others

-- the place of another element has no say
elsewhere : (e : Element) (p : Path) (front left : Children) (c : Elem × Trie) → same_element e (element_view c.0) ≡ false
    → is_one_of (paths_below (front ++ c ∷ left)) (e ∷ p) ≡ is_one_of (paths_below (front ++ left)) (e ∷ p)
elsewhere e p front left c s =
    one-between front left c (e ∷ p)
    ∙ ap (λ b. b || is_one_of (paths_below (front ++ left)) (e ∷ p))
    (any-after same_path same_path-reading e (element_view c.0) (paths c.1) p ∙ ap (λ b. b && is_one_of (paths c.1) p) s)

-- ---- it goes

module _ (cs : Children) (i : ℕ) (c : Elem × Trie) (rise : rises (elements cs) ≡ true) (lt : i < length cs) (is : c ≡ get_or cs i c) where
  parted-rises : rises (elements (take i cs ++ c ∷ drop (i + 1) cs)) ≡ true
  parted-rises = ap (λ l. rises (elements l)) (sym (parted cs i c lt is)) ∙ rise

  -- the others rise
  pub goes-rises : rises (elements (take i cs ++ drop (i + 1) cs)) ≡ true
  goes-rises =
      ap rises (elements-append (take i cs) (drop (i + 1) cs))
      ∙ rises-without (element_view c.0) (elements (take i cs)) (elements (drop (i + 1) cs))
      (ap rises (sym (elements-append (take i cs) (c ∷ drop (i + 1) cs))) ∙ parted-rises)

  -- none of them is of its element
  pub goes-absent : (e : Element) → same_element e (element_view c.0) ≡ true → child_at e (take i cs ++ drop (i + 1) cs) ≡ None
  goes-absent e s = absent-without e (take i cs) (drop (i + 1) cs) c parted-rises s

-- the others are tries with paths
pub goes-tries : (cs : Children) (i : ℕ) (c : Elem × Trie) → i < length cs → c ≡ get_or cs i c → are_filled_tries cs ≡ true
    → are_filled_tries (take i cs ++ drop (i + 1) cs) ≡ true
goes-tries cs i c lt is h = filled-without (take i cs) (drop (i + 1) cs) c (ap are_filled_tries (sym (parted cs i c lt is)) ∙ h)

-- ---- paths taken out

-- the paths ps below the element f are taken out, whose child is c, at the place i
module _ (cs : Children) (i : ℕ) (f : Element) (ps : List Path) (c : Elem × Trie)
    (rise : rises (elements cs) ≡ true) (lt : i < length cs) (is : c ≡ get_or cs i c) (tie : same_element f (element_view c.0) ≡ true) where
  gone : (e : Element) (p : Path) (b : Bool) → same_element e (element_view c.0) ≡ b → is_one_of (paths_after f ps) (e ∷ p) ≡ (b && is_one_of ps p)
  gone e p b s =
      any-after same_path same_path-reading e f ps p
      ∙ ap (λ x. same_element e x && is_one_of ps p) (same_element-true f (element_view c.0) tie) ∙ ap (λ x. x && is_one_of ps p) s

  before-elsewhere : (e : Element) (p : Path) → same_element e (element_view c.0) ≡ false
      → is_one_of (paths_below cs) (e ∷ p) ≡ is_one_of (paths_below (take i cs ++ drop (i + 1) cs)) (e ∷ p)
  before-elsewhere e p s = ap (λ l. is_one_of (paths_below l) (e ∷ p)) (parted cs i c lt is) ∙ elsewhere e p (take i cs) (drop (i + 1) cs) c s

  -- with what is left of the child in its place, the others have what they had
  pub child-stays : (m : Trie) → ((p : Path) → is_one_of (paths m) p ≡ (is_one_of (paths c.1) p && not (is_one_of ps p)))
      → (p : Path) → is_one_of (paths_below (set cs i (c.0, m))) p ≡ (is_one_of (paths_below cs) p && not (is_one_of (paths_after f ps) p))
  child-stays m made [] = one-below-root (set cs i (c.0, m)) ∙ sym (ap (λ b. b && not (is_one_of (paths_after f ps) [])) (one-below-root cs))
  child-stays m made (e ∷ p) = told (same_element e (element_view c.0)) refl
    where
      told : (b : Bool) → same_element e (element_view c.0) ≡ b
          → is_one_of (paths_below (set cs i (c.0, m))) (e ∷ p) ≡ (is_one_of (paths_below cs) (e ∷ p) && not (is_one_of (paths_after f ps) (e ∷ p)))
      told true s =
          let long : i < length (set cs i (c.0, m)) = simp length-set lt in
          let here = sym (get_or-set_same cs i (c.0, m) (c.0, m) lt) in
          found-one e (set cs i (c.0, m)) i (c.0, m) p (set-rises cs i c m lt is rise) long here s
          ∙ made p
          ∙ (λ j. sym (found-one e cs i c p rise lt is s) j && not (sym (gone e p true s) j))
      told false s =
          ap (λ l. is_one_of (paths_below l) (e ∷ p)) (parted-set cs i (c.0, m) lt) ∙ elsewhere e p (take i cs) (drop (i + 1) cs) (c.0, m) s
          ∙ sym (and-true _)
          ∙ (λ j. sym (before-elsewhere e p s) j && not (sym (gone e p false s) j))

  -- a child of which nothing is left may go
  pub child-goes : ((p : Path) → (is_one_of (paths c.1) p && not (is_one_of ps p)) ≡ false)
      → (p : Path) → is_one_of (paths_below (take i cs ++ drop (i + 1) cs)) p ≡ (is_one_of (paths_below cs) p && not (is_one_of (paths_after f ps) p))
  child-goes none [] = one-below-root (take i cs ++ drop (i + 1) cs) ∙ sym (ap (λ b. b && not (is_one_of (paths_after f ps) [])) (one-below-root cs))
  child-goes none (e ∷ p) = told (same_element e (element_view c.0)) refl
    where
      told : (b : Bool) → same_element e (element_view c.0) ≡ b
          → is_one_of (paths_below (take i cs ++ drop (i + 1) cs)) (e ∷ p) ≡ (is_one_of (paths_below cs) (e ∷ p) && not (is_one_of (paths_after f ps) (e ∷ p)))
      told true s =
          any-below same_path same_path-reading e (take i cs ++ drop (i + 1) cs) p (goes-rises cs i c rise lt is)
          ∙ ap (λ x. found same_path x p) (goes-absent cs i c rise lt is e s)
          ∙ sym (none p)
          ∙ (λ j. sym (found-one e cs i c p rise lt is s) j && not (sym (gone e p true s) j))
      told false s = sym (and-true _) ∙ (λ j. sym (before-elsewhere e p s) j && not (sym (gone e p false s) j))

-- ---- one path taken out

none-left : (b : Bool) → (b && not true) ≡ false
none-left true = refl
none-left false = refl

-- the root itself
pub removed-root : (n : Trie) (x : Trie-F Trie) (path : Path)
    → x.here ≡ false → x.below.items ≡ (out-Trie n).below.items → path ≡ [] → is_trie n ≡ true → IsRemoved n path (roll-Trie x)
removed-root n x path here below is trie =
    let parts = trie-parts n x.below.items below trie in
    record { paths_are = λ p. held p ∙ ap (λ q. is_one_of (paths n) p && not (same_path p q)) (sym is); trie = is_trie-made x parts.0 parts.1 }
  where
    held : (p : Path) → is_one_of (paths (roll-Trie x)) p ≡ (is_one_of (paths n) p && not (same_path p []))
    held [] = one-made-root x ∙ here ∙ sym (none-left (is_one_of (paths n) []))
    held (e ∷ p) =
        any-made same_path same_path-reading x e p ∙ ap (λ l. is_one_of (paths_below l) (e ∷ p)) below
        ∙ sym (any-level same_path same_path-reading n e p) ∙ sym (and-true _)

-- what a place holds below is what another holds below, without one path
pub removed-below : (n : Trie) (x : Trie-F Trie) (f : Element) (rest path : Path) → x.here ≡ (out-Trie n).here → path ≡ f ∷ rest
    → ((p : Path) → is_one_of (paths_below x.below.items) p
    ≡ (is_one_of (paths_below (out-Trie n).below.items) p && not (is_one_of (paths_after f (rest ∷ [])) p)))
    → rises (elements x.below.items) ≡ true → are_filled_tries x.below.items ≡ true → IsRemoved n path (roll-Trie x)
removed-below n x f rest path here is below risen tries =
    record { paths_are = λ p. held p ∙ ap (λ q. is_one_of (paths n) p && not (same_path p q)) (sym is); trie = is_trie-made x risen tries }
  where
    held : (p : Path) → is_one_of (paths (roll-Trie x)) p ≡ (is_one_of (paths n) p && not (same_path p (f ∷ rest)))
    held [] = one-made-root x ∙ here ∙ sym (one-level-root n) ∙ sym (and-true _)
    held (e ∷ p) =
        any-made same_path same_path-reading x e p ∙ below (e ∷ p)
        ∙ (λ j. sym (any-level same_path same_path-reading n e p) j && not (or_false (same_path (e ∷ p) (f ∷ rest)) j))

-- what the child has without the path, as the lemmas above say it
left-of : (c : Trie) (rest : Path) (m : Trie) → IsRemoved c rest m
    → (p : Path) → is_one_of (paths m) p ≡ (is_one_of (paths c) p && not (is_one_of (rest ∷ []) p))
left-of c rest m h p = h.paths_are p ∙ ap (λ b. is_one_of (paths c) p && not b) (sym (or_false (same_path p rest)))

module _ (n : Trie) (x : Trie-F Trie) (f : Element) (rest path : Path) (i : ℕ) (c : Elem × Trie) (m : Trie)
    (is_path : path ≡ f ∷ rest) (trie : is_trie n ≡ true)
    (at : IsChildAt f (out-Trie n).below.items i) (is : c ≡ get_or (out-Trie n).below.items i c) (h : IsRemoved c.1 rest m) where
  tie : same_element f (element_view c.0) ≡ true
  tie = ap (λ (d : Elem × Trie). same_element f (element_view d.0)) is ∙ at.same c

  parts : (rises (elements (out-Trie n).below.items) ≡ true) × (are_filled_tries (out-Trie n).below.items ≡ true)
  parts = trie-parts n (out-Trie n).below.items refl trie

  -- a child that has paths left, in its place
  pub removed-child : x.here ≡ (out-Trie n).here → x.below.items ≡ set (out-Trie n).below.items i (c.0, m) → is_filled m ≡ true
      → IsRemoved n path (roll-Trie x)
  removed-child here items filled =
      let cs = (out-Trie n).below.items in
      let stays = child-stays cs i f (rest ∷ []) c parts.0 at.within is tie m (left-of c.1 rest m h) in
      removed-below n x f rest path here is_path
      (λ p. ap (λ l. is_one_of (paths_below l) p) items ∙ stays p)
      (ap (λ l. rises (elements l)) items ∙ set-rises cs i c m at.within is parts.0)
      (ap are_filled_tries items ∙ set-tries cs i c m at.within is h.trie filled parts.1)

  -- a child that has none left, which goes out of the place y
  pub removed-bare : (y : Trie-F Trie) → y.here ≡ (out-Trie n).here → y.below.items ≡ set (out-Trie n).below.items i (c.0, m)
      → x.here ≡ (out-Trie (roll-Trie y)).here
      → x.below.items ≡ take i (out-Trie (roll-Trie y)).below.items ++ drop (i + 1) (out-Trie (roll-Trie y)).below.items → is_filled m ≡ false
      → IsRemoved n path (roll-Trie x)
  removed-bare y as_was put here left bare =
      let cs = (out-Trie n).below.items in
      let d : Elem × Trie = (c.0, m) in
      let there : (out-Trie (roll-Trie y)).below.items ≡ set cs i d = ap (λ (z : Trie-F Trie). z.below.items) (out-roll-Trie y) ∙ put in
      let items = left ∙ ap (λ l. take i l ++ drop (i + 1) l) there ∙ (λ j. take-set cs i d j ++ drop-set-lt (i + 1) cs i d (omega arith) j) in
      let none = λ (p : Path). sym (left-of c.1 rest m h p) ∙ ap (λ ps. is_one_of ps p) (some-none (paths m) bare) in
      let goes = child-goes cs i f (rest ∷ []) c parts.0 at.within is tie none in
      removed-below n x f rest path (here ∙ ap (λ (z : Trie-F Trie). z.here) (out-roll-Trie y) ∙ as_was) is_path
      (λ p. ap (λ l. is_one_of (paths_below l) p) items ∙ goes p)
      (ap (λ l. rises (elements l)) items ∙ goes-rises cs i c parts.0 at.within is)
      (ap are_filled_tries items ∙ goes-tries cs i c at.within is parts.1)

  -- the child has the rest of the path where the place has the path
  pub had-child : is_one_of (paths c.1) rest ≡ is_one_of (paths n) path
  had-child =
      sym (ap (is_one_of (paths n)) is_path ∙ any-level same_path same_path-reading n f rest
      ∙ found-one f (out-Trie n).below.items i c rest parts.0 at.within is tie)

-- without a child of its first element a place does not have the path
pub absent-path : (n : Trie) (f : Element) (rest path : Path) (i : ℕ) → path ≡ f ∷ rest → is_trie n ≡ true
    → rises (elements (take i (out-Trie n).below.items) ++ f ∷ elements (drop i (out-Trie n).below.items)) ≡ true → is_one_of (paths n) path ≡ false
absent-path n f rest path i is trie gap =
    let cs = (out-Trie n).below.items in
    ap (is_one_of (paths n)) is ∙ any-level same_path same_path-reading n f rest
    ∙ any-below same_path same_path-reading f cs rest (trie-parts n cs refl trie).0
    ∙ ap (λ x. found same_path x rest) (child-absent f cs i gap)

-- a path that is not there is taken out by doing nothing
pub removed-absent : (n : Trie) (path : Path) → is_one_of (paths n) path ≡ false → is_trie n ≡ true → IsRemoved n path n
removed-absent n path none trie = record { paths_are = λ p. held p (same_path p path) refl; trie = trie }
  where
    held : (p : Path) (b : Bool) → same_path p path ≡ b → is_one_of (paths n) p ≡ (is_one_of (paths n) p && not (same_path p path))
    held p true s = ap (is_one_of (paths n)) (same_path-true p path s) ∙ none ∙ sym (ap (λ b. is_one_of (paths n) p && not b) s ∙ none-left _)
    held p false s = sym (ap (λ b. is_one_of (paths n) p && not b) s ∙ and-true _)
