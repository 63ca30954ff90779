-- Children that rise, looked for among others that rise, in one pass along both.
use Rattle.std.proofs.Common.{◌≡◌, ℕ, ◌+◌, ◌<◌, List, [], ◌∷◌, ◌++◌, length, take, drop, get_or, true, false, ◌||◌, cond, Option, Some, None, Less, Equal, Greater, refl, sym, ap, subst, ◌∙◌, arith, true≢false, length-drop}
use Rattle.std.specs.List.{list_any}
use Rattle.std.proofs.lemmas.List.{drop_more, take_more, take_all}
use Rattle.ssa_model.specs.definitions.Path.{Element, same_element}
use Rattle.ssa_model.proofs.Basics.{or_true as or_of}
use Rattle.ssa_model.proofs.Fitting.{same_element-true}
use Rattle.ssa_model.proofs.Tables.{element-itself as same_element-itself}
use Rattle.ssa_path.specs.Children.{child_at, elements, heads_order, is_below, rises, IsChildAt}
use Rattle.ssa_path.specs.View.{element_view}
use Rattle.ssa_path.proofs.Combining.{heads-none, other-first, other-within, own-first, own-within, both-within, tied-heads}
use Rattle.ssa_path.proofs.Orders.{both_first, both_second}
use Rattle.ssa_path.proofs.Searching.{absent-below}
use Rattle.ssa_typed.proofs.Levels.{below-apart}
use Rattle.ssa_turn_body.specs.Found.{AreFound}
use Rattle.ssa_turn_body.specs.Marks.{Child}
use Rattle.ssa_turn_body.proofs.Matching.{found-push}
use Rattle.ssa_turn_body.proofs.Missing.{get-again as again}

abbrev Found : Type 0
Found = List (Option ℕ)

-- the element is one of these children's
abbrev IsOneOf : Element → List Child → Type 0
IsOneOf e ds = list_any (same_element e) (elements ds) ≡ true

-- so far: the places of the first children are found, and those left are not among the own children that were passed
pub record AreBeside (cs ds : List Child) (i j : ℕ) (fs : Found) : Type 0 where
  -- the places of those passed are found
  pub found : AreFound cs (take j ds) fs
  -- what is left of the own children rises
  pub own_rise : rises (elements (drop i cs)) ≡ true
  -- so does what is left of the others
  pub other_rise : rises (elements (drop j ds)) ≡ true
  -- what is left is looked for among what is left
  pub left : (e : Element) → IsOneOf e (drop j ds) → child_at e cs ≡ child_at e (drop i cs)

-- at first all is left
pub beside-start : (cs ds : List Child) (fs : Found) → rises (elements cs) ≡ true → rises (elements ds) ≡ true → fs ≡ [] → AreBeside cs ds 0 0 fs
beside-start cs ds fs own other none = record { found = subst (AreFound cs []) (sym none) tt; own_rise = own; other_rise = other; left = λ e one. refl }

-- where an element is below all, none of them is the element
other-than : (e f : Element) (ds : List Child) → IsOneOf e ds → is_below f (elements ds) ≡ true → same_element e f ≡ false
other-than e f ds one below =
    elim (same_element e f) as (λ b. same_element e f ≡ b → b ≡ false) [
      | true ↦ λ t.
          absurd (true≢false (sym one ∙ ap (λ x. list_any (same_element x) (elements ds)) (same_element-true e f t) ∙ below-apart f (elements ds) below))
      | false ↦ λ t. refl
    ] refl

passed : (e : Element) (c : Child) (cs : List Child) → same_element e (element_view c.0) ≡ false → child_at e (c ∷ cs) ≡ child_at e cs
passed e c cs other = ap (λ b. cond b (Some c.1) (child_at e cs)) other

-- the next child and the ones behind it
record IsNext (xs : List Child) (i : ℕ) (x : Child) (ys : List Child) : Type 0 where
  here : drop i xs ≡ x ∷ ys
  there : x ≡ get_or xs i x
  further : ys ≡ drop (i + 1) xs
  within : i < length xs

next-of : (xs : List Child) (i : ℕ) (x : Child) (ys : List Child) → drop i xs ≡ x ∷ ys → IsNext xs i x ys
next-of xs i x ys e =
    let long = length-drop i xs in
    let same = ap length e in
    let within : i < length xs = omega arith in
    let more : x ∷ ys ≡ get_or xs i x ∷ drop (i + 1) xs = sym e ∙ drop_more xs i x within in
    let first : x ≡ get_or xs i x = cc in
    let rest : ys ≡ drop (i + 1) xs = cc in
    record { here = e; there = first; further = rest; within = within }

module _ (cs ds : List Child) (i j : ℕ) (fs : Found) (h : AreBeside cs ds i j fs) where
  -- an own child that comes first is none of those left
  pub beside-own : heads_order (drop i cs) (drop j ds) ≡ Some Less → AreBeside cs ds (i + 1) j fs
  beside-own order = by (drop i cs) refl
    where
      by : (l : List Child) → drop i cs ≡ l → AreBeside cs ds (i + 1) j fs
      by [] e = let lt = own-within cs (drop j ds) i order in let long = length-drop i cs in let none = ap length e in absurd (omega arith)
      by (c ∷ l) e =
          let next = next-of cs i c l e in
          let first = own-first c l (drop j ds) (ap (λ xs. heads_order xs (drop j ds)) (sym e) ∙ order) h.other_rise in
          let rise = ap (λ xs. rises (elements xs)) (sym e) ∙ h.own_rise in
          record {
            found = h.found;
            own_rise = ap (λ xs. rises (elements xs)) (sym next.further) ∙ both_second (is_below (element_view c.0) (elements l)) _ rise;
            other_rise = h.other_rise;
            left = λ x one.
                h.left x one ∙ ap (child_at x) e ∙ passed x c l (other-than x (element_view c.0) (drop j ds) one first) ∙ ap (child_at x) next.further;
          }

  -- another child that comes first is none of the own ones
  pub beside-other : heads_order (drop i cs) (drop j ds) ≡ Some Greater → (gs : Found) → gs ≡ fs ++ None ∷ [] → AreBeside cs ds i (j + 1) gs
  beside-other order gs pushed = by (drop j ds) refl
    where
      by : (l : List Child) → drop j ds ≡ l → AreBeside cs ds i (j + 1) gs
      by [] e = let lt = other-within (drop i cs) ds j order in let long = length-drop j ds in let none = ap length e in absurd (omega arith)
      by (d ∷ l) e =
          let next = next-of ds j d l e in
          let f = element_view d.0 in
          let first = other-first (drop i cs) d l (ap (heads_order (drop i cs)) (sym e) ∙ order) h.own_rise in
          let one : IsOneOf f (drop j ds) = ap (λ xs. list_any (same_element f) (elements xs)) e
          ∙ ap (λ b. b || list_any (same_element f) (elements l)) (same_element-itself f) in
          let none : child_at f cs ≡ None = h.left f one ∙ absent-below f f (drop i cs) (same_element-itself f) first in
          let rise = ap (λ xs. rises (elements xs)) (sym e) ∙ h.other_rise in
          record {
            found =
                subst (λ xs. AreFound cs xs gs) (ap (λ x. take j ds ++ x ∷ []) next.there ∙ sym (take_more ds j d next.within))
                (subst (AreFound cs (take j ds ++ d ∷ [])) (sym pushed) (found-push cs (take j ds) fs d None h.found none));
            own_rise = h.own_rise;
            other_rise = ap (λ xs. rises (elements xs)) (sym next.further) ∙ both_second (is_below f (elements l)) _ rise;
            left = λ x more. h.left x (ap (λ xs. list_any (same_element x) (elements xs)) e
                ∙ or_of (same_element x f) _ (ap (λ xs. list_any (same_element x) (elements xs)) next.further ∙ more));
          }

  -- heads that tie are one child's at both
  pub beside-both : heads_order (drop i cs) (drop j ds) ≡ Some Equal → (gs : Found) → gs ≡ fs ++ Some i ∷ [] → AreBeside cs ds (i + 1) (j + 1) gs
  beside-both order gs pushed = by (drop i cs) (drop j ds) refl refl
    where
      lt : (i < length cs) × (j < length ds)
      lt = both-within cs ds i j order

      by : (l m : List Child) → drop i cs ≡ l → drop j ds ≡ m → AreBeside cs ds (i + 1) (j + 1) gs
      by [] m e g = let within = lt.0 in let long = length-drop i cs in let none = ap length e in absurd (omega arith)
      by (c ∷ l) [] e g = let within = lt.1 in let long = length-drop j ds in let none = ap length g in absurd (omega arith)
      by (c ∷ l) (d ∷ m) e g =
          let own = next-of cs i c l e in
          let other = next-of ds j d m g in
          let f = element_view d.0 in
          let same : element_view c.0 ≡ f = tied-heads c d l m ((λ t. heads_order (sym e t) (sym g t)) ∙ order) in
          let at : IsChildAt f cs i = record {
            within = own.within;
            same = λ x. ap (λ (y : Child). same_element f (element_view y.0)) (again cs i c x own.within ∙ sym own.there)
                ∙ ap (same_element f) same ∙ same_element-itself f;
          } in
          let rise = ap (λ xs. rises (elements xs)) (sym e) ∙ h.own_rise in
          let other_rise = ap (λ xs. rises (elements xs)) (sym g) ∙ h.other_rise in
          let below : is_below (element_view c.0) (elements m) ≡ true = ap (λ x. is_below x (elements m)) same
          ∙ both_first (is_below f (elements m)) _ other_rise in
          record {
            found =
                subst (λ xs. AreFound cs xs gs) (ap (λ x. take j ds ++ x ∷ []) other.there ∙ sym (take_more ds j d other.within))
                (subst (AreFound cs (take j ds ++ d ∷ [])) (sym pushed) (found-push cs (take j ds) fs d (Some i) h.found at));
            own_rise = ap (λ xs. rises (elements xs)) (sym own.further) ∙ both_second (is_below (element_view c.0) (elements l)) _ rise;
            other_rise = ap (λ xs. rises (elements xs)) (sym other.further) ∙ both_second (is_below f (elements m)) _ other_rise;
            left = λ x more.
                let one : IsOneOf x m = ap (λ xs. list_any (same_element x) (elements xs)) other.further ∙ more in
                h.left x (ap (λ xs. list_any (same_element x) (elements xs)) g ∙ or_of (same_element x f) _ one)
                ∙ ap (child_at x) e ∙ passed x c l (other-than x (element_view c.0) m one below) ∙ ap (child_at x) own.further;
          }

  -- at the end the places of all are found
  pub beside-end : heads_order (drop i cs) (drop j ds) ≡ None → AreFound cs ds fs
  beside-end order =
      let none = ap length (heads-none (drop i cs) (drop j ds) order).1 in
      let long = length-drop j ds in
      subst (λ xs. AreFound cs xs fs) (take_all j ds (omega arith)) h.found
