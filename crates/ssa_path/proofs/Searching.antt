-- A binary search among children that rise.
use Rattle.std.proofs.Common.{◌≡◌, ℕ, zero, suc, ◌<◌, ◌≤◌, List, [], ◌∷◌, ◌++◌, length, get_or, take, drop, true, false, cond, Option, Some, None, Result, Ok, Err, Ordering, Less, Equal, Greater, refl, sym, ap, ◌∙◌, arith}
use Rattle.std.specs.Ordering.{is_lt, is_eq, ordering_index, ordering_reverse}
use Rattle.std.specs.Option.{IfNone, IfSome}
use Rattle.std.specs.Result.{MatchResult, result_ok}
use Rattle.std.specs.List.Sorted.{IsBinarySearchResult}
use Rattle.ssa_model.specs.definitions.Path.{Element, element_cmp, same_element}
use Rattle.ssa_model.proofs.Texts.{same_element_same}
use Rattle.ssa_path.specs.declared.element.Elem.{Elem}
use Rattle.ssa_path.specs.View.{element_view}
use Rattle.ssa_path.specs.Children.{elements, child_at, is_below, rises, IsChildAt, IsSearchResult}
use Rattle.ssa_path.proofs.Orders.{element_cmp_total, not_tied, both_first, both_second}
use Rattle.ssa_model.proofs.Fitting.{same_element-true}
use Rattle.ssa_model.proofs.Tables.{element-itself as same_element-itself}
use Rattle.ssa_model.proofs.Basics.{both-true as both, lower}

-- what stands behind e or at it is followed by what stands behind e
index_up : (e f g : Element) (o : Ordering) → element_cmp f e ≡ o → element_cmp f g ≡ Less → ordering_index o ≤ ordering_index (element_cmp g e)
index_up e f g Less a b = omega arith
index_up e f g Equal a b =
    let same : f ≡ e = same_element_same f e a in
    let above : element_cmp g e ≡ Greater = element_cmp_total.antisymm g e ∙ ap ordering_reverse (ap (λ x. element_cmp x g) (sym same) ∙ b) in
    rw above (omega arith)
index_up e f g Greater a b =
    let less : element_cmp e f ≡ Less = element_cmp_total.antisymm e f ∙ ap ordering_reverse a in
    let above : element_cmp g e ≡ Greater = element_cmp_total.antisymm g e ∙ ap ordering_reverse (element_cmp_total.trans e f g less b) in
    rw above (omega arith)

tied-other_way : (f e : Element) → element_cmp f e ≡ Equal → same_element e f ≡ true
tied-other_way f e h = ap is_eq (element_cmp_total.antisymm e f ∙ ap ordering_reverse h)

-- what stands before elements, one of them among them, stands before that one
pub below-middle : (f d : Element) (es fs : List Element) → is_below f (es ++ d ∷ fs) ≡ true → is_lt (element_cmp f d) ≡ true
below-middle f d [] fs h = both_first _ _ h
below-middle f d (e ∷ es) fs h = below-middle f d es fs (both_second _ _ h)

-- what stands before an element is not this element
pub apart-before : (e f g : Element) → same_element e g ≡ true → is_lt (element_cmp f g) ≡ true → same_element e f ≡ false
apart-before e f g s h =
    let same : e ≡ g = same_element-true e g s in
    let above : element_cmp g f ≡ Greater = element_cmp_total.antisymm g f ∙ ap ordering_reverse (lower _ h) in
    ap (λ x. same_element x f) same ∙ ap is_eq above

module _ {A : Type 0} where
  -- how the child compares with the element
  abbrev pub compared : Element → Elem × A → Ordering
  compared e c = element_cmp (element_view c.0) e

  abbrev element_at : List (Elem × A) → ℕ → Elem × A → Element
  element_at cs i d = element_view (get_or cs i d).0

  below-at : (f : Element) (cs : List (Elem × A)) (j : ℕ) (d : Elem × A) → j < length cs → is_below f (elements cs) ≡ true
      → element_cmp f (element_at cs j d) ≡ Less
  below-at f [] j d lt h = absurd (omega arith)
  below-at f (c ∷ cs) zero d lt h = lower _ (both_first _ _ h)
  below-at f (c ∷ cs) (suc j) d lt h = below-at f cs j d (omega arith) (both_second _ _ h)

  -- along children that rise, the comparison with an element goes from below over equal to above
  pub compared-rises : (e : Element) (cs : List (Elem × A)) → rises (elements cs) ≡ true → (i j : ℕ) (d : Elem × A) → i ≤ j → j < length cs
      → ordering_index (compared e (get_or cs i d)) ≤ ordering_index (compared e (get_or cs j d))
  compared-rises e [] h i j d le lt = absurd (omega arith)
  compared-rises e (c ∷ cs) h zero zero d le lt = omega arith
  compared-rises e (c ∷ cs) h zero (suc j) d le lt = index_up e (element_view c.0) (element_at cs j d) _ refl
      (below-at (element_view c.0) cs j d (omega arith) (both_first _ _ h))
  compared-rises e (c ∷ cs) h (suc i) zero d le lt = absurd (omega arith)
  compared-rises e (c ∷ cs) h (suc i) (suc j) d le lt = compared-rises e cs (both_second _ _ h) i j d (omega arith) (omega arith)

  above-all : (e : Element) (cs : List (Elem × A)) → ((k : ℕ) (d : Elem × A) → k < length cs → compared e (get_or cs k d) ≡ Greater)
      → is_below e (elements cs) ≡ true
  above-all e [] h = refl
  above-all e (c ∷ cs) h =
      both _ _ (ap is_lt (element_cmp_total.antisymm e (element_view c.0) ∙ ap ordering_reverse (h 0 c (omega arith))))
      (above-all e cs (λ k d lt. h (suc k) d (omega arith)))

  below-between : (f e : Element) (cs : List (Elem × A)) (i : ℕ) → element_cmp f e ≡ Less → is_below f (elements cs) ≡ true
      → is_below f (elements (take i cs) ++ e ∷ elements (drop i cs)) ≡ true
  below-between f e [] zero a h = both _ _ (ap is_lt a) refl
  below-between f e [] (suc i) a h = both _ _ (ap is_lt a) refl
  below-between f e (c ∷ cs) zero a h = both _ _ (ap is_lt a) h
  below-between f e (c ∷ cs) (suc i) a h = both _ _ (both_first _ _ h) (below-between f e cs i a (both_second _ _ h))

  -- an element rises between children that are below it and others that are above it
  pub gap-rises : (e : Element) (cs : List (Elem × A)) (i : ℕ) → ((k : ℕ) (d : Elem × A) → k < i → k < length cs → compared e (get_or cs k d) ≡ Less)
      → ((k : ℕ) (d : Elem × A) → i ≤ k → k < length cs → compared e (get_or cs k d) ≡ Greater)
      → rises (elements cs) ≡ true → rises (elements (take i cs) ++ e ∷ elements (drop i cs)) ≡ true
  gap-rises e [] zero lows highs h = refl
  gap-rises e [] (suc i) lows highs h = refl
  gap-rises e (c ∷ cs) zero lows highs h = both _ _ (above-all e (c ∷ cs) (λ k d lt. highs k d (omega arith) lt)) h
  gap-rises e (c ∷ cs) (suc i) lows highs h =
      both _ _ (below-between (element_view c.0) e cs i (lows 0 c (omega arith) (omega arith)) (both_first _ _ h))
      (gap-rises e cs i (λ k d lt in_range. lows (suc k) d (omega arith) (omega arith)) (λ k d le in_range. highs (suc k) d (omega arith) (omega arith))
      (both_second _ _ h))

  -- ---- what is found

  -- what a binary search among children that rise answers is a search result
  pub search-result : (e : Element) (cs : List (Elem × A)) (r : Result ℕ ℕ) → rises (elements cs) ≡ true
      → MatchResult r (λ i. i < length cs) (λ i. i ≤ length cs) → IsBinarySearchResult (compared e) cs r → IsSearchResult e cs r
  search-result e cs (Ok i) h bound found = record { within = bound; same = λ c. tied-other_way (element_at cs i c) e (found c) }
  search-result e cs (Err i) h bound found =
      let parts = found (compared-rises e cs h) in
      record { within = bound; between = gap-rises e cs i (λ k d lt in_range. parts.0 k d (omega arith) lt) (λ k d le lt. parts.1 k d le lt) h }

  -- ---- the child found, or none

  -- an element below all children has none of them
  pub absent-below : (e f : Element) (cs : List (Elem × A)) → same_element e f ≡ true → is_below f (elements cs) ≡ true → child_at e cs ≡ None
  absent-below e f [] s h = refl
  absent-below e f (c ∷ cs) s h =
      let apart : same_element e (element_view c.0) ≡ false = ap (λ x. same_element x (element_view c.0)) (same_element-true e f s)
      ∙ not_tied _ (both_first _ _ h) in
      ap (λ b. cond b (Some c.1) (child_at e cs)) apart ∙ absent-below e f cs s (both_second _ _ h)

  same_here : (e f : Element) → same_element e f ≡ false → (c : A) (x : Option A) → cond (same_element e f) (Some c) x ≡ x
  same_here e f h c x = ap (λ b. cond b (Some c) x) h

  -- the child at a place is the one of its element
  pub child-found : (e : Element) (cs : List (Elem × A)) (i : ℕ) (c : Elem × A) → rises (elements cs) ≡ true → i < length cs
      → same_element e (element_view (get_or cs i c).0) ≡ true → child_at e cs ≡ Some (get_or cs i c).1
  child-found e [] i c h lt s = absurd (omega arith)
  child-found e (d ∷ cs) zero c h lt s = ap (λ b. cond b (Some d.1) (child_at e cs)) s
  child-found e (d ∷ cs) (suc i) c h lt s =
      let before = ap is_lt (below-at (element_view d.0) cs i c (omega arith) (both_first _ _ h)) in
      same_here e (element_view d.0) (apart-before e (element_view d.0) (element_at cs i c) s before) d.1 (child_at e cs)
      ∙ child-found e cs i c (both_second _ _ h) (omega arith) s

  -- an element that fits into a gap has no child
  pub child-absent : (e : Element) (cs : List (Elem × A)) (i : ℕ) → rises (elements (take i cs) ++ e ∷ elements (drop i cs)) ≡ true → child_at e cs ≡ None
  child-absent e [] i h = refl
  child-absent e (c ∷ cs) zero h = absent-below e e (c ∷ cs) (same_element-itself e) (both_first _ _ h)
  child-absent e (c ∷ cs) (suc i) h =
      let before = below-middle (element_view c.0) e (elements (take i cs)) (elements (drop i cs)) (both_first _ _ h) in
      same_here e (element_view c.0) (apart-before e (element_view c.0) e (same_element-itself e) before) c.1 (child_at e cs)
      ∙ child-absent e cs i (both_second _ _ h)

  -- what a search answers is the place of the element's child, or there is none
  pub searched : (e : Element) (cs : List (Elem × A)) (r : Result ℕ ℕ) → IsSearchResult e cs r → IfSome (result_ok r) (IsChildAt e cs)
      × IfNone (result_ok r) (child_at e cs ≡ None)
  searched e cs (Ok i) h = (h, tt)
  searched e cs (Err i) h = (tt, child-absent e cs i h.between)

  something : (x : Option A) (y : A) → x ≡ Some y → x ≡ None → ⊥
  something x y e h = let none : Some y ≡ None = sym e ∙ h in cc

  at-place : (cs : List (Elem × A)) (i : ℕ) → i < length cs → Elem × A
  at-place [] i lt = absurd (omega arith)
  at-place (c ∷ cs) i lt = c

  -- a child that is found is there
  pub some-child : (e : Element) (cs : List (Elem × A)) (i : ℕ) → rises (elements cs) ≡ true → IsChildAt e cs i → child_at e cs ≡ None → ⊥
  some-child e cs i h found none =
      let c = at-place cs i found.within in
      something (child_at e cs) (get_or cs i c).1 (child-found e cs i c h found.within (found.same c)) none
