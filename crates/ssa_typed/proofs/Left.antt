-- What is left of children on both sides without those under one element that are one.
use Rattle.std.proofs.Common.{◌≡◌, ℕ, ◌+◌, ◌<◌, ◌≤◌, inl, inr, List, [], ◌∷◌, ◌++◌, length, get_or, take, drop, Bool, true, false, not, cond, Option, Some, None, refl, sym, ap, subst, subst₂, ◌∙◌, true≢false, arith}
use Rattle.std.specs.List.{list_any}
use Rattle.std.specs.Prelude.{slice_get}
use Rattle.std.proofs.lemmas.List.{nil_from_length, take_all}
use Rattle.std.proofs.lemmas.List.Folds.{list_any-append}
use Rattle.ssa_model.specs.definitions.Path.{Element, same_element}
use Rattle.ssa_model.proofs.Basics.{both-true as both, not_true, first_false as neither_first, some≢none as some-none}
use Rattle.ssa_model.proofs.Fitting.{same_element-true}
use Rattle.ssa_model.proofs.ShownNames.{turned as same_either_way}
use Rattle.ssa_path.specs.Children.{child_at, elements, rises}
use Rattle.ssa_path.specs.View.{element_view}
use Rattle.ssa_path.proofs.Lists.{elements-append, left-at, taken-at}
use Rattle.ssa_path.proofs.Orders.{both_first, both_second}
use Rattle.ssa_typed.specs.InOrder.{IsInOrder}
use Rattle.ssa_typed.specs.Rows.{are_apart, are_trees, is_tree}
use Rattle.ssa_typed.specs.Same.{AreLeft, AreSame, IsLeft}
use Rattle.ssa_typed.specs.declared.node.Node.{Node}
use Rattle.ssa_typed.proofs.Building.{Child}
use Rattle.ssa_typed.proofs.Levels.{rises-apart}
use Rattle.ssa_typed.proofs.Lookups.{child_at-rest}
use Rattle.ssa_typed.proofs.References.{child-read, standing-order}
use Rattle.ssa_typed.proofs.SortedOut.{before-apart}

-- at first all is left
pub left-all : (cs ds : List Child) → are_apart (elements cs) ≡ true → are_apart (elements ds) ≡ true → AreLeft cs ds cs ds
left-all cs ds own other = record { each = λ e. inl (refl, refl); own_apart = own; others_apart = other }

-- ---- one more is not left

-- under the element of two children that are one nothing is left then, and under each other element what was
pass : (b : Bool) (x y : Option Node) (c d : Node) (own other : Option Node) → AreSame c d → (b ≡ true → own ≡ None) → (b ≡ true → other ≡ None)
    → IsLeft x y (cond b (Some c) own) (cond b (Some d) other) → IsLeft x y own other
pass true x y c d own other same none none_other h = elim h [
  | inl (is, other_is) ↦ inr (record { own = c; other = d; own_is = sym is; other_is = sym other_is; same = same }, none refl, none_other refl)
  | inr (pair, nothing, nothing_other) ↦ absurd (some-none c nothing)
]
pass false x y c d own other same none none_other h = h

-- the last of children that are apart stands under none of the others' elements
not-before : (cs : List Child) (c : Child) → are_apart (elements (cs ++ c ∷ [])) ≡ true → list_any (same_element (element_view c.0)) (elements cs) ≡ false
not-before cs c apart = before-apart (elements cs) (element_view c.0) [] (ap are_apart (sym (elements-append cs (c ∷ []))) ∙ apart)

apart-front : (es fs : List Element) → are_apart (es ++ fs) ≡ true → are_apart es ≡ true
apart-front [] fs h = refl
apart-front (e ∷ es) fs h =
    let others = sym (list_any-append (same_element e) es fs) ∙ not_true _ (both_first (not (list_any (same_element e) (es ++ fs))) _ h) in
    both _ _ (ap not (neither_first (list_any (same_element e) es) _ others))
    (apart-front es fs (both_second (not (list_any (same_element e) (es ++ fs))) _ h))

-- children that are apart are so with the last one first
apart-last : (cs : List Child) (c : Child) → are_apart (elements (cs ++ c ∷ [])) ≡ true → are_apart (elements (c ∷ cs)) ≡ true
apart-last cs c h =
    both _ _ (ap not (not-before cs c h))
    (apart-front (elements cs) (element_view c.0 ∷ []) (ap are_apart (sym (elements-append cs (c ∷ []))) ∙ h))

either-first : (a b : Bool) (x y rest : Option Node) → (a ≡ true → b ≡ false) → cond a x (cond b y rest) ≡ cond b y (cond a x rest)
either-first true true x y rest h = absurd (true≢false (h refl))
either-first true false x y rest h = refl
either-first false b x y rest h = refl

-- and each element has the same child then
child_at-last : (cs : List Child) (c : Child) → are_apart (elements (cs ++ c ∷ [])) ≡ true → (e : Element)
    → child_at e (cs ++ c ∷ []) ≡ child_at e (c ∷ cs)
child_at-last [] c h e = refl
child_at-last (x ∷ cs) c h e =
    let f = element_view c.0 in
    let g = element_view x.0 in
    let other : same_element f g ≡ false = neither_first (same_element f g) _ (not-before (x ∷ cs) c h) in
    ap (cond (same_element e g) (Some x.1)) (child_at-last cs c (both_second (not (list_any (same_element g) (elements (cs ++ c ∷ [])))) _ h) e)
    ∙ either-first (same_element e g) (same_element e f) (Some x.1) (Some c.1) (child_at e cs)
    (λ is. ap (λ k. same_element k f) (same_element-true e g is) ∙ same_either_way f g ∙ other)

module _ (cs ds : List Child) (c d : Child) (own others : List Child) (element : element_view c.0 ≡ element_view d.0) (same : AreSame c.1 d.1) where
  -- the first two children are not left
  pub left-first : AreLeft cs ds (c ∷ own) (d ∷ others) → AreLeft cs ds own others
  left-first h = record {
    each = λ e.
        pass (same_element e (element_view c.0)) (child_at e cs) (child_at e ds) c.1 d.1 (child_at e own) (child_at e others) same
        (λ is. child_at-rest e c own is h.own_apart)
        (λ is. child_at-rest e d others (ap (same_element e) (sym element) ∙ is) h.others_apart)
        (subst (λ g. IsLeft (child_at e cs) (child_at e ds) (cond (same_element e (element_view c.0)) (Some c.1) (child_at e own))
        (cond (same_element e g) (Some d.1) (child_at e others))) (sym element) (h.each e));
    own_apart = both_second (not (list_any (same_element (element_view c.0)) (elements own))) _ h.own_apart;
    others_apart = both_second (not (list_any (same_element (element_view d.0)) (elements others))) _ h.others_apart;
  }

  -- nor are the last two
  pub left-last : AreLeft cs ds (own ++ c ∷ []) (others ++ d ∷ []) → AreLeft cs ds own others
  left-last h = left-first (record {
    each = λ e. subst₂ (IsLeft (child_at e cs) (child_at e ds)) (child_at-last own c h.own_apart e) (child_at-last others d h.others_apart e) (h.each e);
    own_apart = apart-last own c h.own_apart;
    others_apart = apart-last others d h.others_apart;
  })

-- ---- more is left

none-left : (x y own other : Option Node) → x ≡ None → y ≡ None → IsLeft x y own other → (own ≡ None) × (other ≡ None)
none-left x y own other none none_other h = elim h [
  | inl (is, other_is) ↦ (is ∙ none, other_is ∙ none_other)
  | inr (pair, nothing, nothing_other) ↦ (nothing, nothing_other)
]

also-left : (c d x y own other : Option Node) → IsLeft c d x y → IsLeft x y own other → IsLeft c d own other
also-left c d x y own other h k = elim h [
  | inl (is, other_is) ↦ subst₂ (λ a b. IsLeft a b own other) is other_is k
  | inr (pair, none, none_other) ↦ let rest = none-left x y own other none none_other k in inr (pair, rest.0, rest.1)
]

-- what is left of what is left is left of all
pub left-more : (cs ds own others less lesser : List Child) → AreLeft cs ds own others → AreLeft own others less lesser → AreLeft cs ds less lesser
left-more cs ds own others less lesser h k = record {
  each = λ e.
      also-left (child_at e cs) (child_at e ds) (child_at e own) (child_at e others) (child_at e less) (child_at e lesser) (h.each e) (k.each e);
  own_apart = k.own_apart;
  others_apart = k.others_apart;
}

-- put in order, all is left
pub left-ordered : (cs ds own others : List Child) → IsInOrder cs own → IsInOrder ds others → AreLeft cs ds own others
left-ordered cs ds own others h k = record {
  each = λ e. inl (h.same e, k.same e);
  own_apart = rises-apart (elements own) h.rise;
  others_apart = rises-apart (elements others) k.rise;
}

-- where there are no children none is left
pub left-nothing : (cs ds own others : List Child) → length own ≡ 0 → length others ≡ 0 → AreLeft cs ds own others → AreLeft cs ds [] []
left-nothing cs ds own others none none_other = subst₂ (AreLeft cs ds) (nil_from_length own none) (nil_from_length others none_other)

-- ---- what is left is there

one-left : (x y own other : Option Node) (n : Node) → own ≡ Some n → IsLeft x y own other → x ≡ Some n
one-left x y own other n there h = elim h [
  | inl (is, other_is) ↦ sym is ∙ there
  | inr (pair, none, none_other) ↦ absurd (some-none n (sym there ∙ none))
]

other-left : (x y own other : Option Node) (n : Node) → other ≡ Some n → IsLeft x y own other → y ≡ Some n
other-left x y own other n there h = elim h [
  | inl (is, other_is) ↦ sym other_is ∙ there
  | inr (pair, none, none_other) ↦ absurd (some-none n (sym there ∙ none_other))
]

module _ (cs ds own others : List Child) (h : AreLeft cs ds own others) (i : ℕ) (c : Child) where
  -- a child that is left, and read in order, is the one of its element
  pub left-own : rises (elements own) ≡ true → slice_get own i ≡ Some c → child_at (element_view c.0) cs ≡ Some c.1
  left-own rise is =
      let e = element_view c.0 in
      one-left (child_at e cs) (child_at e ds) (child_at e own) (child_at e others) c.1
      (child-read own own i c is (standing-order own own own refl refl rise)) (h.each e)

  -- likewise on the other side
  pub left-other : rises (elements others) ≡ true → slice_get others i ≡ Some c → child_at (element_view c.0) ds ≡ Some c.1
  left-other rise is =
      let e = element_view c.0 in
      other-left (child_at e cs) (child_at e ds) (child_at e own) (child_at e others) c.1
      (child-read others others i c is (standing-order others others others refl refl rise)) (h.each e)

-- ---- walks from both ends

-- so many children of both are passed: what is behind them is left of both
pub record IsPassed (cs ds : List Child) (i : ℕ) : Type 0 where
  -- so many there are
  pub within : i ≤ length cs
  -- on the other side too
  pub other_within : i ≤ length ds
  -- those behind are left
  pub left : AreLeft cs ds (drop i cs) (drop i ds)
  -- they are trees
  pub own_trees : are_trees (drop i cs) ≡ true
  -- on the other side too
  pub others_trees : are_trees (drop i ds) ≡ true

-- so many of the first children are left of both
pub record IsTaken (cs ds : List Child) (i j : ℕ) : Type 0 where
  -- so many there are
  pub within : i ≤ length cs
  -- on the other side too
  pub other_within : j ≤ length ds
  -- those in front are left
  pub left : AreLeft cs ds (take i cs) (take j ds)

-- before the first walk all are left
pub passed-none : (cs ds : List Child) → are_apart (elements cs) ≡ true → are_apart (elements ds) ≡ true → are_trees cs ≡ true → are_trees ds ≡ true
    → IsPassed cs ds 0
passed-none cs ds own other trees other_trees = record {
  within = omega arith;
  other_within = omega arith;
  left = left-all cs ds own other;
  own_trees = trees;
  others_trees = other_trees;
}

-- before the walk back all are left
pub taken-all : (cs ds : List Child) → are_apart (elements cs) ≡ true → are_apart (elements ds) ≡ true → IsTaken cs ds (length cs) (length ds)
taken-all cs ds own other = record {
  within = omega arith;
  other_within = omega arith;
  left = subst₂ (AreLeft cs ds) (sym (take_all (length cs) cs (omega arith))) (sym (take_all (length ds) ds (omega arith))) (left-all cs ds own other);
}

module _ (cs ds : List Child) (i j : ℕ) (c d : Child) (lt : i < length cs) (other_lt : j < length ds) (is : c ≡ get_or cs i c) (other_is : d ≡ get_or ds j d) where
  -- one less is left where the last two are one
  pub taken-less : element_view c.0 ≡ element_view d.0 → AreSame c.1 d.1 → IsTaken cs ds (i + 1) (j + 1) → IsTaken cs ds i j
  taken-less element same h = record {
    within = omega arith;
    other_within = omega arith;
    left =
        left-last cs ds c d (take i cs) (take j ds) element same
        (subst₂ (AreLeft cs ds) (taken-at cs i c lt is) (taken-at ds j d other_lt other_is) h.left);
  }

module _ (cs ds : List Child) (i : ℕ) (c d : Child) (lt : i < length cs) (other_lt : i < length ds) (is : c ≡ get_or cs i c) (other_is : d ≡ get_or ds i d)
    (h : IsPassed cs ds i) where
  own_left : are_trees (c ∷ drop (i + 1) cs) ≡ true
  own_left = ap are_trees (sym (left-at cs i c lt is)) ∙ h.own_trees

  others_left : are_trees (d ∷ drop (i + 1) ds) ≡ true
  others_left = ap are_trees (sym (left-at ds i d other_lt other_is)) ∙ h.others_trees

  -- the next children are trees
  pub passed-trees : (is_tree c.1 ≡ true) × (is_tree d.1 ≡ true)
  passed-trees = (both_first (is_tree c.1) _ own_left, both_first (is_tree d.1) _ others_left)

  -- they are passed where they are one
  pub passed-more : element_view c.0 ≡ element_view d.0 → AreSame c.1 d.1 → IsPassed cs ds (i + 1)
  passed-more element same = record {
    within = omega arith;
    other_within = omega arith;
    left =
        left-first cs ds c d (drop (i + 1) cs) (drop (i + 1) ds) element same
        (subst₂ (AreLeft cs ds) (left-at cs i c lt is) (left-at ds i d other_lt other_is) h.left);
    own_trees = both_second (is_tree c.1) _ own_left;
    others_trees = both_second (is_tree d.1) _ others_left;
  }
