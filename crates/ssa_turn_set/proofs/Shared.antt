-- What is counted for the children that stand in both of two lists.
use Rattle.std.proofs.Common.{◌≡◌, ℕ, ◌+◌, ◌<◌, ◌≤◌, List, [], ◌∷◌, ◌++◌, length, get_or, take, true, cond, Option, Some, None, Ordering, Less, Equal, Greater, refl, sym, ap, ◌∙◌, arith}
use Rattle.std.specs.Ordering.{is_lt, is_eq, ordering_reverse}
use Rattle.ssa_model.specs.definitions.Path.{Element, element_cmp, same_element}
use Rattle.ssa_path.specs.declared.element.Elem.{Elem}
use Rattle.ssa_path.specs.declared.trie.Trie.{Trie}
use Rattle.ssa_path.specs.Children.{child_at, elements, is_below, rises}
use Rattle.ssa_path.specs.View.{element_view}
use Rattle.ssa_path.proofs.Orders.{element_cmp_total, both_first, both_second}
use Rattle.ssa_path.proofs.Lists.{taken-at}
use Rattle.ssa_path.proofs.Searching.{absent-below, apart-before}
use Rattle.ssa_turn_set.proofs.Reaching.{is_below-before}
use Rattle.ssa_model.proofs.Fitting.{same_element-true}
use Rattle.ssa_model.proofs.Basics.{both-true as both}
use Rattle.ssa_model.proofs.Tables.{element-itself as same_element-itself}

-- what counts only where there is such a child
abbrev pub there : Option Trie → ℕ → ℕ
there None n = 0
there (Some c) n = n

-- the sum over the children of the one list that stand in the other
abbrev pub shared : (Element → ℕ) → List (Elem × Trie) → List (Elem × Trie) → ℕ
shared h [] cs = 0
shared h (d ∷ ds) cs = there (child_at (element_view d.0) cs) (h (element_view d.0)) + shared h ds cs

pub there-most : (o : Option Trie) (n : ℕ) → there o n ≤ n
there-most None n = omega arith
there-most (Some c) n = omega arith

shared-nowhere : (h : Element → ℕ) (ds : List (Elem × Trie)) → shared h ds [] ≡ 0
shared-nowhere h [] = refl
shared-nowhere h (d ∷ ds) = let none = shared-nowhere h ds in omega arith

-- the first child is none of those that are behind it
shared-behind : (h : Element → ℕ) (c : Elem × Trie) (cs ds : List (Elem × Trie)) → is_below (element_view c.0) (elements ds) ≡ true
    → shared h ds (c ∷ cs) ≡ shared h ds cs
shared-behind h c cs [] below = refl
shared-behind h c cs (d ∷ ds) below =
    let e = element_view d.0 in
    let apart = apart-before e (element_view c.0) e (same_element-itself e) (both_first _ _ below) in
    λ i. there (cond (apart i) (Some c.1) (child_at e cs)) (h e) + shared-behind h c cs ds (both_second _ _ below) i

shared-step : (h : Element → ℕ) (c : Elem × Trie) (cs : List (Elem × Trie))
    → ((ds : List (Elem × Trie)) → rises (elements ds) ≡ true → shared h ds cs ≡ shared h cs ds) → rises (elements (c ∷ cs)) ≡ true
    → (ds : List (Elem × Trie)) → rises (elements ds) ≡ true → shared h ds (c ∷ cs) ≡ shared h (c ∷ cs) ds
shared-step h c cs rest rise [] k = sym (shared-nowhere h (c ∷ cs))
shared-step h c cs rest rise (d ∷ ds) k =
    by (element_cmp (element_view c.0) (element_view d.0)) refl (shared-step h c cs rest rise ds (both_second _ _ k))
  where
    e : Element
    e = element_view d.0

    f : Element
    f = element_view c.0

    by : (o : Ordering) → element_cmp f e ≡ o → shared h ds (c ∷ cs) ≡ shared h (c ∷ cs) ds → shared h (d ∷ ds) (c ∷ cs) ≡ shared h (c ∷ cs) (d ∷ ds)
    by Less at more_here =
        let below = both _ _ (ap is_lt at) (is_below-before f e (elements ds) (ap is_lt at) (both_first _ _ k)) in
        let none : there (child_at f (d ∷ ds)) (h f) ≡ 0 = ap (λ o. there o (h f)) (absent-below f f (d ∷ ds) (same_element-itself f) below) in
        let skipped = shared-behind h c cs (d ∷ ds) below in
        let more = rest (d ∷ ds) k in
        omega arith
    by Equal at more_here =
        let same : same_element e f ≡ true = ap is_eq (element_cmp_total.antisymm e f ∙ ap ordering_reverse at) in
        let is = same_element-true e f same in
        let one = ap (λ b. there (cond b (Some c.1) (child_at e cs)) (h e)) same in
        let other = ap (λ x. there (child_at x (d ∷ ds)) (h x)) (sym is) ∙ ap (λ b. there (cond b (Some d.1) (child_at e ds)) (h e)) (same_element-itself e) in
        let mine = shared-behind h c cs ds (ap (λ x. is_below x (elements ds)) (sym is) ∙ both_first _ _ k) in
        let theirs = shared-behind h d ds cs (ap (λ x. is_below x (elements cs)) is ∙ both_first _ _ rise) in
        (λ i. one i + (mine ∙ rest ds (both_second _ _ k)) i) ∙ sym (λ i. other i + theirs i)
    by Greater at more_here =
        let before : is_lt (element_cmp e f) ≡ true = ap is_lt (element_cmp_total.antisymm e f ∙ ap ordering_reverse at) in
        let below = both _ _ before (is_below-before e f (elements cs) before (both_first _ _ rise)) in
        let none : there (child_at e (c ∷ cs)) (h e) ≡ 0 = ap (λ o. there o (h e)) (absent-below e e (c ∷ cs) (same_element-itself e) below) in
        let skipped = shared-behind h d ds (c ∷ cs) below in
        omega arith

-- it is the same whichever list is gone through
pub shared-comm : (h : Element → ℕ) (cs ds : List (Elem × Trie)) → rises (elements cs) ≡ true → rises (elements ds) ≡ true → shared h ds cs ≡ shared h cs ds
shared-comm h [] ds rise k = shared-nowhere h ds
shared-comm h (c ∷ cs) ds rise k = shared-step h c cs (λ es n. shared-comm h cs es (both_second _ _ rise) n) rise ds k

pub shared-more : (h : Element → ℕ) (ds : List (Elem × Trie)) (d : Elem × Trie) (cs : List (Elem × Trie))
    → shared h (ds ++ d ∷ []) cs ≡ shared h ds cs + there (child_at (element_view d.0) cs) (h (element_view d.0))
shared-more h [] d cs = let n = there (child_at (element_view d.0) cs) (h (element_view d.0)) in omega arith
shared-more h (c ∷ ds) d cs = let rest = shared-more h ds d cs in omega arith

-- one child more that stands there, or does not
pub shared-one-more : (h : Element → ℕ) (ds cs : List (Elem × Trie)) (i count one : ℕ) (d : Elem × Trie) → i < length ds → d ≡ get_or ds i d
    → count ≡ shared h (take i ds) cs → one ≡ there (child_at (element_view d.0) cs) (h (element_view d.0)) → count + one ≡ shared h (take (i + 1) ds) cs
shared-one-more h ds cs i count one d lt is e f = (λ j. e j + f j) ∙ sym (ap (λ l. shared h l cs) (taken-at ds i d lt is) ∙ shared-more h (take i ds) d cs)
