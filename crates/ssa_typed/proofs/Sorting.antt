-- References to children, sorted by their elements.
use Rattle.std.proofs.Common.{◌≡◌, ℕ, suc, ◌+◌, ◌<◌, ◌≤◌, List, [], ◌∷◌, length, get_or, map, Bool, true, false, not, ◌&&◌, cond, Option, Some, None, Ordering, Less, Equal, Greater, refl, sym, ap, ◌∙◌, subst, arith, true≢false, Bor}
use Rattle.std.specs.Prelude.{filter, option_map}
use Rattle.std.specs.List.{list_any, All}
use Rattle.std.proofs.lemmas.List.Elements.{All-filter, All-get_or, All-head, All-same, All-tail}
use Rattle.std.specs.List.Sorted.{IsSortedBy, IsStableBy, ties}
use Rattle.std.specs.Ordering.{is_lt, is_eq, ordering_reverse}
use Rattle.std.specs.Cmp.{IsStrictWeakOrder}
use Rattle.std.proofs.lemmas.List.Sorted.{ranks_by, sorted_far}
use Rattle.ssa_model.specs.definitions.Path.{Element, element_cmp, same_element}
use Rattle.ssa_path.specs.Children.{child_at, elements, is_below, rises}
use Rattle.ssa_path.specs.declared.element.Elem.{Elem}
use Rattle.ssa_path.specs.View.{element_view}
use Rattle.ssa_path.proofs.Orders.{element_cmp_total, both_first, both_second}
use Rattle.ssa_typed.specs.InOrder.{IsInOrder}
use Rattle.ssa_typed.specs.Rows.{are_apart}
use Rattle.ssa_typed.specs.declared.node.Node.{Node}
use Rattle.ssa_model.proofs.Tables.{element-itself as same_element-itself}
use Rattle.ssa_model.proofs.Fitting.{same_element-true}
use Rattle.ssa_model.proofs.Basics.{not_true, both-true as both, first_false as neither_first, second_false as neither_second}

-- ---- a filter of a list

none_some : {X : Type 0} (x : X) (xs : List X) → [] ≡ x ∷ xs → ⊥
none_some x xs e = cc

module _ {X : Type 0} where
  filter_passes : (f : X → Bool) (xs : List X) (x : X) (rest : List X) → filter f xs ≡ x ∷ rest → f x ≡ true
  filter_passes f [] x rest e = absurd (none_some x rest e)
  filter_passes f (y ∷ xs) x rest e =
      elim (f y) as (λ b. f y ≡ b → cond b (y ∷ filter f xs) (filter f xs) ≡ x ∷ rest → f x ≡ true) [
        | true ↦ λ h k. let same : y ≡ x = cc in ap f (sym same) ∙ h
        | false ↦ λ h k. filter_passes f xs x rest k
      ] refl e

  -- the first element, if there is one
  abbrev first : List X → Option X
  first [] = None
  first (x ∷ xs) = Some x

-- ---- elements of a list of keyed values

module _ {X : Type 0} (key : X → Element) where
  -- the element of the one is below that of the other
  abbrev pub before : X → X → Bool
  before x y = is_lt (element_cmp (key x) (key y))

  abbrev of_element : Element → X → Bool
  of_element e x = same_element e (key x)

  abbrev keys : List X → List Element
  keys xs = map key xs

  tied : (o : Ordering) → (not (is_lt o) && not (is_lt (ordering_reverse o))) ≡ is_eq o
  tied Less = refl
  tied Equal = refl
  tied Greater = refl

  ties_are : (x y : X) → ties before x y ≡ of_element (key x) y
  ties_are x y = ap (λ o. not (is_lt (element_cmp (key x) (key y))) && not (is_lt o)) (element_cmp_total.antisymm (key y) (key x))
      ∙ tied (element_cmp (key x) (key y))

  module _ (Is : X → Type 0) (xs ys : List X) (are_xs : All Is xs) (are_ys : All Is ys)
      (stable : (x : X) → Is x → filter (ties before x) ys ≡ filter (ties before x) xs) where
    like : (x : X) → Is x → filter (of_element (key x)) ys ≡ filter (of_element (key x)) xs
    like x is = (λ i. filter (λ y. sym (ties_are x y) i) ys) ∙ stable x is ∙ (λ i. filter (λ y. ties_are x y i) xs)

    like_first : (e : Element) (x : X) → of_element e x ≡ true → Is x → filter (of_element e) ys ≡ filter (of_element e) xs
    like_first e x h is = subst (λ f. filter (of_element f) ys ≡ filter (of_element f) xs) (sym (same_element-true e (key x) h)) (like x is)

    is-first : (e : Element) (zs : List X) (x : X) (rest : List X) → All Is zs → filter (of_element e) zs ≡ x ∷ rest → Is x
    is-first e zs x rest are h = All-head Is x rest (All-same Is (x ∷ rest) (filter (of_element e) zs) (sym h) (All-filter (of_element e) Is zs are))

    -- as many values of each element, in the same order
    alike : (e : Element) → filter (of_element e) ys ≡ filter (of_element e) xs
    alike e =
        elim (filter (of_element e) ys) as (λ us. filter (of_element e) ys ≡ us → us ≡ filter (of_element e) xs) [
          | [] ↦ λ h. elim (filter (of_element e) xs) as (λ vs. filter (of_element e) xs ≡ vs → [] ≡ vs) [
            | [] ↦ λ k. refl
            | v ∷ vs ↦ λ k. sym h ∙ like_first e v (filter_passes (of_element e) xs v vs k) (is-first e xs v vs are_xs k) ∙ k
          ] refl
          | u ∷ us ↦ λ h. sym h ∙ like_first e u (filter_passes (of_element e) ys u us h) (is-first e ys u us are_ys h)
        ] refl

  -- ---- values whose elements differ

  none-of : (e : Element) (xs : List X) → list_any (same_element e) (keys xs) ≡ false → filter (of_element e) xs ≡ []
  none-of e [] h = refl
  none-of e (x ∷ xs) h =
      ap (λ b. cond b (x ∷ filter (of_element e) xs) (filter (of_element e) xs)) (neither_first (of_element e x) _ h)
      ∙ none-of e xs (neither_second (of_element e x) _ h)

  once : (e : Element) (xs : List X) → are_apart (keys xs) ≡ true → length (filter (of_element e) xs) ≤ 1
  once e [] h = omega arith
  once e (x ∷ xs) h =
      elim (of_element e x) as (λ b. of_element e x ≡ b → length (cond b (x ∷ filter (of_element e) xs) (filter (of_element e) xs)) ≤ 1) [
        | true ↦ λ s.
            let others : list_any (same_element e) (keys xs) ≡ false =
            ap (λ f. list_any (same_element f) (keys xs)) (same_element-true e (key x) s) ∙ not_true _ (both_first _ (are_apart (keys xs)) h) in
            let none = none-of e xs others in
            rw none (omega arith)
        | false ↦ λ s. once e xs (both_second (not (list_any (same_element (key x)) (keys xs))) _ h)
      ] refl

  -- ---- values in order, each element once

  only-first : (x : X) (xs : List X) → length (filter (of_element (key x)) (x ∷ xs)) ≤ 1 → same_element (key x) (key x) ≡ true
      → length (filter (of_element (key x)) xs) ≤ 0
  only-first x xs h same =
      let more : length (filter (of_element (key x)) (x ∷ xs)) ≡ suc (length (filter (of_element (key x)) xs)) =
      ap (λ b. length (cond b (x ∷ filter (of_element (key x)) xs) (filter (of_element (key x)) xs))) same in
      omega arith

  longer : (e : Element) (x : X) (xs : List X) → length (filter (of_element e) (x ∷ xs)) ≤ 1 → length (filter (of_element e) xs) ≤ 1
  longer e x xs h =
      elim (of_element e x) as (λ b. length (cond b (x ∷ filter (of_element e) xs) (filter (of_element e) xs)) ≤ 1
      → length (filter (of_element e) xs) ≤ 1) [ true ↦ λ k. omega arith | false ↦ λ k. k ] h

  above : (o : Ordering) → is_lt (ordering_reverse o) ≡ false → is_eq o ≡ false → is_lt o ≡ true
  above Less a b = refl
  above Equal a b = absurd (true≢false b)
  above Greater a b = absurd (true≢false a)

  below-first : (x : X) (xs : List X) → ((k : ℕ) → k < length xs → before (get_or xs k x) x ≡ false) → length (filter (of_element (key x)) xs) ≤ 0
      → is_below (key x) (keys xs) ≡ true
  below-first x xs up none = go xs up none
    where
      go : (zs : List X) → ((k : ℕ) → k < length zs → before (get_or zs k x) x ≡ false) → length (filter (of_element (key x)) zs) ≤ 0
          → is_below (key x) (keys zs) ≡ true
      go [] up none = refl
      go (z ∷ zs) up none =
          let o = element_cmp (key x) (key z) in
          let first : is_lt (ordering_reverse o) ≡ false = ap is_lt (sym (element_cmp_total.antisymm (key z) (key x))) ∙ up 0 (omega arith) in
          elim (of_element (key x) z) as (λ b. of_element (key x) z ≡ b
          → length (cond b (z ∷ filter (of_element (key x)) zs) (filter (of_element (key x)) zs)) ≤ 0 → is_below (key x) (keys (z ∷ zs)) ≡ true) [
            | true ↦ λ s k. absurd (omega arith)
            | false ↦ λ s k. both _ _ (above o first s) (go zs (λ j lt. up (suc j) (omega arith)) k)
          ] refl none

  weak : IsStrictWeakOrder before
  weak = ranks_by element_cmp_total key

  -- the elements of sorted values rise, where no two values have one element
  pub in_order_rises : (xs : List X) → ((e : Element) → same_element e e ≡ true) → IsSortedBy before xs
      → ((e : Element) → length (filter (of_element e) xs) ≤ 1) → rises (keys xs) ≡ true
  in_order_rises [] itself up one = refl
  in_order_rises (x ∷ xs) itself up one =
      both _ _ (below-first x xs (λ k lt. sorted_far before weak (x ∷ xs) up 0 (suc k) x (omega arith) (omega arith))
      (only-first x xs (one (key x)) (itself (key x))))
      (in_order_rises xs itself (λ k d le lt. ap (λ j. before (get_or (x ∷ xs) j d) (get_or xs k d)) (next k)
      ∙ up (suc k) d (omega arith) (omega arith)) (λ e. longer e x xs (one e)))
    where
      next : (k : ℕ) → suc (k + 1) ≡ suc k + 1
      next k = omega arith

-- ---- values that stand for children under elements

module _ {X A : Type 0} (entry : X → Elem × A) where
  -- the element of the child that a value stands for
  abbrev pub entry_element : X → Element
  entry_element x = element_view (entry x).0

  elements-entries : (xs : List X) → elements (map entry xs) ≡ map entry_element xs
  elements-entries [] = refl
  elements-entries (x ∷ xs) = ap (λ es. entry_element x ∷ es) (elements-entries xs)

  child-first : (e : Element) (xs : List X) → child_at e (map entry xs) ≡ option_map (λ x. (entry x).1) (first (filter (of_element entry_element e) xs))
  child-first e [] = refl
  child-first e (x ∷ xs) =
      elim (of_element entry_element e x) as (λ b. cond b (Some (entry x).1) (child_at e (map entry xs))
      ≡ option_map (λ y. (entry y).1) (first (cond b (x ∷ filter (of_element entry_element e) xs) (filter (of_element entry_element e) xs)))) [
        | true ↦ refl
        | false ↦ child-first e xs
      ]

  -- what a stable sort of values that stand for the children leaves, where its test agrees on them with that of their elements
  pub sorted-agreeing : (Is : X → Type 0) (lt : X → X → Bool) → ((x y : X) → Is x → Is y → lt x y ≡ before entry_element x y) → (cs : List (Elem × A))
      (rs ss : List X) → map entry rs ≡ cs → are_apart (elements cs) ≡ true → All Is rs → All Is ss → IsStableBy lt rs ss → IsSortedBy lt ss
      → IsInOrder cs (map entry ss)
  sorted-agreeing Is lt agree cs rs ss is apart are_rs are_ss stable up =
      let differ : are_apart (map entry_element rs) ≡ true = ap are_apart (sym (elements-entries rs)) ∙ ap (λ l. are_apart (elements l)) is ∙ apart in
      let same = alike entry_element Is rs ss are_rs are_ss stable-alike in
      record {
        rise =
            ap rises (elements-entries ss)
            ∙ in_order_rises entry_element ss same_element-itself up-alike (λ e. subst (λ l. length l ≤ 1) (sym (same e)) (once entry_element e rs differ));
        same = λ e. child-first e ss ∙ ap (λ l. option_map (λ x. (entry x).1) (first l)) (same e) ∙ sym (child-first e rs) ∙ ap (child_at e) is;
      }
    where
      tied-alike : (x : X) → Is x → (zs : List X) → All Is zs → filter (ties (before entry_element) x) zs ≡ filter (ties lt x) zs
      tied-alike x one [] are = refl
      tied-alike x one (z ∷ zs) are =
          let other = All-head Is z zs are in
          λ i. cond (not (sym (agree x z one other) i) && not (sym (agree z x other one) i)) (z ∷ tied-alike x one zs (All-tail Is z zs are) i)
          (tied-alike x one zs (All-tail Is z zs are) i)

      stable-alike : (x : X) → Is x → filter (ties (before entry_element) x) ss ≡ filter (ties (before entry_element) x) rs
      stable-alike x one = tied-alike x one ss are_ss ∙ stable x ∙ sym (tied-alike x one rs are_rs)

      up-alike : IsSortedBy (before entry_element) ss
      up-alike k d low high =
          sym (agree (get_or ss (k + 1) d) (get_or ss k d) (All-get_or Is ss (k + 1) d high are_ss)
          (All-get_or Is ss k d (omega arith) are_ss)) ∙ up k d low high

  -- what a stable sort of values that stand for the children leaves
  pub sorted-entries : (cs : List (Elem × A)) (rs ss : List X) → map entry rs ≡ cs → are_apart (elements cs) ≡ true
      → IsStableBy (before entry_element) rs ss → IsSortedBy (before entry_element) ss → IsInOrder cs (map entry ss)
  sorted-entries cs rs ss is apart stable up =
      sorted-agreeing (λ x. Unit {0}) (before entry_element) (λ x y _ _. refl) cs rs ss is apart (λ k d lt. tt) (λ k d lt. tt) stable up

-- ---- references to children

abbrev Reference : Type 0
Reference = Bor (Elem × Node)

-- the element of a child that is lent
abbrev pub element_of : Reference → Element
element_of r = element_view r.now.0
