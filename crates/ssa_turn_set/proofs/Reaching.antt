-- How many of the first children are enough to find the one of an element.
use Rattle.std.proofs.Common.{◌≡◌, ℕ, zero, suc, ◌+◌, ◌-◌, ◌<◌, ◌≤◌, List, [], ◌∷◌, ◌++◌, length, get_or, take, drop, true, false, cond, Some, None, Ordering, Less, Equal, Greater, refl, sym, ap, ◌∙◌, arith, true≢false}
use Rattle.std.proofs.lemmas.List.{get_or-drop, get_or-take, length-drop, length-take-le, take_all, take-append-drop}
use Rattle.std.specs.Prelude.{◌==◌}
use Rattle.std.specs.Ordering.{is_lt, is_eq, ordering_index, ordering_reverse}
use Rattle.ssa_model.specs.definitions.Path.{Element, element_cmp, same_element}
use Rattle.ssa_path.specs.declared.element.Elem.{Elem}
use Rattle.ssa_path.specs.Children.{child_at, elements, is_below, rises, IsChildAt}
use Rattle.ssa_path.specs.View.{element_view}
use Rattle.ssa_path.proofs.Orders.{element_cmp_total, both_first, both_second}
use Rattle.ssa_path.proofs.Lists.{elements-append}
use Rattle.ssa_path.proofs.Searching.{absent-below}
use Rattle.ssa_model.proofs.Tables.{element-itself as same_element-itself}
use Rattle.ssa_model.proofs.Basics.{both-true as both, lower}

-- what is before an element is before all behind it
pub is_below-before : (e f : Element) (es : List Element) → is_lt (element_cmp e f) ≡ true → is_below f es ≡ true → is_below e es ≡ true
is_below-before e f [] lt h = refl
is_below-before e f (g ∷ es) lt h =
    both _ _ (ap is_lt (element_cmp_total.trans e f g (lower _ lt) (lower _ (both_first _ _ h)))) (is_below-before e f es lt (both_second _ _ h))

-- what is behind the last of some is behind all of them
below-joined : (x : Element) (es : List Element) (e : Element) (fs : List Element) → is_below x (es ++ e ∷ []) ≡ true → is_below e fs ≡ true
    → is_below x ((es ++ e ∷ []) ++ fs) ≡ true
below-joined x [] e fs h k = both _ _ (both_first _ _ h) (is_below-before x e fs (both_first _ _ h) k)
below-joined x (y ∷ es) e fs h k = both _ _ (both_first _ _ h) (below-joined x es e fs (both_second _ _ h) k)

-- elements in order up to one, and from it on, are in order together
pub rises-joined : (es : List Element) (e : Element) (fs : List Element) → rises (es ++ e ∷ []) ≡ true → rises (e ∷ fs) ≡ true
    → rises ((es ++ e ∷ []) ++ fs) ≡ true
rises-joined [] e fs h k = k
rises-joined (x ∷ es) e fs h k = both _ _ (below-joined x es e fs (both_first _ _ h) (both_first _ _ k)) (rises-joined es e fs (both_second _ _ h) k)

-- an order that is not less is told so
pub not_before : (o : Ordering) → (ordering_index o == 0) ≡ false → is_lt o ≡ false
not_before Less h = absurd (true≢false h)
not_before Equal h = refl
not_before Greater h = refl

module _ {A : Type 0} (e : Element) where
  -- the first child is that of the element, or all behind it are behind the element
  first-enough : (c : Elem × A) (cs : List (Elem × A)) (o : Ordering) → element_cmp (element_view c.0) e ≡ o → is_lt o ≡ false
      → is_below (element_view c.0) (elements cs) ≡ true
      → cond (same_element e (element_view c.0)) (Some c.1) None ≡ cond (same_element e (element_view c.0)) (Some c.1) (child_at e cs)
  first-enough c cs Less at later h = absurd (true≢false later)
  first-enough c cs Equal at later h =
      let same : same_element e (element_view c.0) ≡ true = ap is_eq (element_cmp_total.antisymm e (element_view c.0) ∙ ap ordering_reverse at) in
      ap (λ b. cond b (Some c.1) None) same ∙ sym (ap (λ b. cond b (Some c.1) (child_at e cs)) same)
  first-enough c cs Greater at later h =
      let before : is_lt (element_cmp e (element_view c.0)) ≡ true = ap is_lt (element_cmp_total.antisymm e (element_view c.0) ∙ ap ordering_reverse at) in
      ap (λ x. cond (same_element e (element_view c.0)) (Some c.1) x)
      (sym (absent-below e e cs (same_element-itself e) (is_below-before e (element_view c.0) (elements cs) before h)))

  -- where the last of them is not before the element, those behind it are not needed
  pub reaches : (cs : List (Elem × A)) (k : ℕ) (c : Elem × A) → rises (elements cs) ≡ true → k < length cs → c ≡ get_or cs k c
      → is_lt (element_cmp (element_view c.0) e) ≡ false
      → child_at e (take (suc k) cs) ≡ child_at e cs
  reaches [] k c h lt is later = absurd (omega arith)
  reaches (d ∷ cs) zero c h lt is later =
      first-enough d cs _ refl (ap (λ (x : Elem × A). is_lt (element_cmp (element_view x.0) e)) (sym is) ∙ later) (both_first _ _ h)
  reaches (d ∷ cs) (suc k) c h lt is later =
      ap (λ x. cond (same_element e (element_view d.0)) (Some d.1) x) (reaches cs k c (both_second _ _ h) (omega arith) is later)

-- ---- among those that are left

below-front : (e : Element) (es fs : List Element) → is_below e (es ++ fs) ≡ true → is_below e es ≡ true
below-front e [] fs h = refl
below-front e (f ∷ es) fs h = both _ _ (both_first _ _ h) (below-front e es fs (both_second _ _ h))

-- the first of elements in order are in order
pub rises-front : (es fs : List Element) → rises (es ++ fs) ≡ true → rises es ≡ true
rises-front [] fs h = refl
rises-front (e ∷ es) fs h = both _ _ (below-front e es fs (both_first _ _ h)) (rises-front es fs (both_second _ _ h))

module _ {A : Type 0} where
  -- those from `start` to the end
  pub left-all : (cs : List A) (start : ℕ) → take (length cs - start) (drop start cs) ≡ drop start cs
  left-all cs start = take_all (length cs - start) (drop start cs) (let l = length-drop start cs in omega arith)

  -- the first children of some in order are in order
  pub rises-near : (cs : List (Elem × A)) (n : ℕ) → rises (elements cs) ≡ true → rises (elements (take n cs)) ≡ true
  rises-near cs n h =
      rises-front (elements (take n cs)) (elements (drop n cs))
      (ap rises (sym (elements-append (take n cs) (drop n cs))) ∙ ap (λ l. rises (elements l)) (take-append-drop n cs) ∙ h)

  -- the place of a child among those that are left is one among all of them
  pub near-child : (e : Element) (cs : List (Elem × A)) (start n k : ℕ) → n ≤ length (drop start cs) → IsChildAt e (take n (drop start cs)) k
      → IsChildAt e cs (start + k)
  near-child e cs start n k le at =
      let l = length-drop start cs in
      let m = length-take-le n (drop start cs) le in
      let within = at.within in
      record {
        within = omega arith;
        same = λ c.
            ap (λ (x : Elem × A). same_element e (element_view x.0)) (sym (get_or-take n (drop start cs) k c (omega arith) ∙ get_or-drop start cs k c))
            ∙ at.same c;
      }
