-- Children whose elements are below those of what is left of two lists that rise.
use Rattle.std.proofs.Common.{◌≡◌, List, [], ◌∷◌, ◌++◌, true, cond, Some, None, refl, sym, ap, subst, ◌∙◌}
use Rattle.std.specs.Ordering.{is_lt}
use Rattle.ssa_model.specs.definitions.Path.{Element, element_cmp}
use Rattle.ssa_model.proofs.Basics.{both-true as both}
use Rattle.ssa_model.proofs.ShownNames.{turned as same_either_way}
use Rattle.ssa_path.specs.Children.{child_at, elements, is_below, rises}
use Rattle.ssa_path.specs.View.{element_view}
use Rattle.ssa_path.proofs.Orders.{both_first, both_second, not_tied}
use Rattle.ssa_turn_body.specs.Marks.{Child}

-- each of the children is below all of these elements
abbrev AreLower : List Child → List Element → Type 0
AreLower [] es = Unit {0}
AreLower (c ∷ cs) es = (is_below (element_view c.0) es ≡ true) × AreLower cs es

lower-rest : (cs : List Child) (e : Element) (es : List Element) → AreLower cs (e ∷ es) → AreLower cs es
lower-rest [] e es h = tt
lower-rest (c ∷ cs) e es h = (both_second (is_lt (element_cmp (element_view c.0) e)) _ h.0, lower-rest cs e es h.1)

lower-more : (cs : List Child) (c : Child) (es : List Element) → AreLower cs es → is_below (element_view c.0) es ≡ true → AreLower (cs ++ c ∷ []) es
lower-more [] c es h b = (b, tt)
lower-more (x ∷ cs) c es h b = (h.0, lower-more cs c es h.1 b)

lower-none : (cs : List Child) (e : Element) (es : List Element) → AreLower cs (e ∷ es) → child_at e cs ≡ None
lower-none [] e es h = refl
lower-none (c ∷ cs) e es h =
    let other = same_either_way (element_view c.0) e ∙ not_tied (element_cmp (element_view c.0) e) (both_first _ _ h.0) in
    ap (λ b. cond b (Some c.1) (child_at e cs)) other ∙ lower-none cs e es h.1

below-more : (e : Element) (cs : List Child) (d : Child) → is_below e (elements cs) ≡ true → is_lt (element_cmp e (element_view d.0)) ≡ true
    → is_below e (elements (cs ++ d ∷ [])) ≡ true
below-more e [] d h lt = both _ _ lt refl
below-more e (c ∷ cs) d h lt =
    both _ _ (both_first (is_lt (element_cmp e (element_view c.0))) _ h) (below-more e cs d (both_second (is_lt (element_cmp e (element_view c.0))) _ h) lt)

rises-more : (cs : List Child) (d : Child) (es : List Element) → rises (elements cs) ≡ true → AreLower cs (element_view d.0 ∷ es)
    → rises (elements (cs ++ d ∷ [])) ≡ true
rises-more [] d es r h = refl
rises-more (c ∷ cs) d es r h =
    both _ _ (below-more (element_view c.0) cs d (both_first (is_below (element_view c.0) (elements cs)) _ r) (both_first _ _ h.0))
    (rises-more cs d es (both_second (is_below (element_view c.0) (elements cs)) _ r) h.1)

-- the children stand before all that is left of both lists
pub record AreBefore (xs own others : List Child) : Type 0 where
  -- they are below what is left of the first
  pub first : AreLower xs (elements own)
  -- and below what is left of the second
  pub second : AreLower xs (elements others)

-- no child stands before all
pub before-start : (own others : List Child) → AreBefore [] own others
before-start own others = record { first = tt; second = tt }

-- where the first list is one shorter, they stand before what is left
pub before-own : (xs : List Child) (c : Child) (own others : List Child) → AreBefore xs (c ∷ own) others → AreBefore xs own others
before-own xs c own others h = record { first = lower-rest xs (element_view c.0) (elements own) h.first; second = h.second }

-- so they do where the second is
pub before-others : (xs own : List Child) (d : Child) (others : List Child) → AreBefore xs own (d ∷ others) → AreBefore xs own others
before-others xs own d others h = record { first = h.first; second = lower-rest xs (element_view d.0) (elements others) h.second }

-- one more stands before all
pub before-more : (xs : List Child) (x : Child) (own others : List Child) → AreBefore xs own others → is_below (element_view x.0) (elements own) ≡ true
    → is_below (element_view x.0) (elements others) ≡ true → AreBefore (xs ++ x ∷ []) own others
before-more xs x own others h a b = record { first = lower-more xs x (elements own) h.first a; second = lower-more xs x (elements others) h.second b }

-- the next child of the first list is none of them
pub before-none : (xs : List Child) (c : Child) (own others : List Child) → AreBefore xs (c ∷ own) others → child_at (element_view c.0) xs ≡ None
before-none xs c own others h = lower-none xs (element_view c.0) (elements own) h.first

-- nor is the next of the second
pub before-none-others : (xs own : List Child) (d : Child) (others : List Child) → AreBefore xs own (d ∷ others) → child_at (element_view d.0) xs ≡ None
before-none-others xs own d others h = lower-none xs (element_view d.0) (elements others) h.second

-- with one of the element of the next of the first list behind them they rise
pub before-rises : (xs : List Child) (x c : Child) (own others : List Child) → element_view x.0 ≡ element_view c.0 → rises (elements xs) ≡ true
    → AreBefore xs (c ∷ own) others → rises (elements (xs ++ x ∷ [])) ≡ true
before-rises xs x c own others same r h = rises-more xs x (elements own) r (subst (λ e. AreLower xs (e ∷ elements own)) (sym same) h.first)

-- so they do with the next of the second
pub before-rises-others : (xs own : List Child) (d : Child) (others : List Child) → rises (elements xs) ≡ true → AreBefore xs own (d ∷ others)
    → rises (elements (xs ++ d ∷ [])) ≡ true
before-rises-others xs own d others r h = rises-more xs d (elements others) r h.second
