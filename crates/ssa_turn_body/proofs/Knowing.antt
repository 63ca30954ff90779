-- Where an element of one place is among the children of the other, by the places that are told.
use Rattle.std.proofs.Common.{◌≡◌, ℕ, zero, suc, List, [], ◌∷◌, length, filter, Bool, true, false, not, ◌||◌, eqb, cond, Option, Some, None, refl, sym, ap, ◌∙◌, arith, true≢false}
use Rattle.std.specs.List.{list_any}
use Rattle.std.specs.Prelude.{is_some, slice_get}
use Rattle.std.proofs.lemmas.Option.{none-some, same_Some}
use Rattle.ssa_model.specs.definitions.Kind.{is_among}
use Rattle.ssa_model.specs.definitions.Path.{Element, same_element}
use Rattle.ssa_model.proofs.Tests.{same_tests}
use Rattle.ssa_path.specs.Children.{child_at, elements, IsChildAt}
use Rattle.ssa_path.specs.View.{element_view}
use Rattle.ssa_path.proofs.Orders.{both_second}
use Rattle.ssa_typed.specs.Rows.{are_apart}
use Rattle.ssa_turn_body.specs.Found.{AreFound, AreKnown, IsTurnedRound, fresh, is_in, is_told, kept, somes}
use Rattle.ssa_turn_body.specs.Marks.{Child}
use Rattle.ssa_turn_body.proofs.Descending.{any-at, child-here, found-at, other-before}
use Rattle.ssa_turn_body.proofs.Matching.{found-in}
use Rattle.ssa_turn_body.proofs.Walking.{child-among}
use Rattle.ssa_turn_body.proofs.Weaving.{same_number}
use Rattle.ssa_model.proofs.Fitting.{same_element-true}
use Rattle.ssa_model.proofs.Tables.{element-itself as same_element-itself}

abbrev Found : Type 0
Found = List (Option ℕ)

-- ---- the second children among the first

here-among : (e : Element) (cs : List Child) (k : ℕ) → IsChildAt e cs k → is_among e (elements cs) ≡ true
here-among e cs k at = let h = child-here e cs k at in any-at e cs k h.child h.here h.same

-- the places found for the second children are told for just those that are among the first
pub known-found : (cs ds : List Child) (fs : Found) → AreFound cs ds fs → AreKnown fs (elements ds) (elements cs)
known-found cs [] [] h = tt
known-found cs [] (f ∷ fs) h = absurd h
known-found cs (d ∷ ds) [] h = absurd h
known-found cs (d ∷ ds) (None ∷ fs) h = (sym (ap is_some h.0) ∙ child-among (element_view d.0) cs, known-found cs ds fs h.1)
known-found cs (d ∷ ds) (Some k ∷ fs) h = (sym (here-among (element_view d.0) cs k h.0), known-found cs ds fs h.1)

-- ---- the first children among the second

-- an element stands at one place
same-place : (e : Element) (cs : List Child) (i j : ℕ) (c d : Child) → slice_get cs i ≡ Some c → same_element e (element_view c.0) ≡ true
    → slice_get cs j ≡ Some d → same_element e (element_view d.0) ≡ true → are_apart (elements cs) ≡ true → i ≡ j
same-place e [] i j c d g s h t apart = absurd (none-some c g)
same-place e (x ∷ cs) zero zero c d g s h t apart = refl
same-place e (x ∷ cs) zero (suc j) c d g s h t apart =
    absurd (true≢false (sym (ap (λ (y : Child). same_element e (element_view y.0)) (same_Some x c g) ∙ s) ∙ other-before e x cs j d h t apart))
same-place e (x ∷ cs) (suc i) zero c d g s h t apart =
    absurd (true≢false (sym (ap (λ (y : Child). same_element e (element_view y.0)) (same_Some x d h) ∙ t) ∙ other-before e x cs i c g s apart))
same-place e (x ∷ cs) (suc i) (suc j) c d g s h t apart =
    ap suc (same-place e cs i j c d g s h t (both_second (not (list_any (same_element (element_view x.0)) (elements cs))) _ apart))

-- the place of a child that is there is told
in-found : (cs ds : List Child) (fs : Found) (e : Element) (x : ℕ) (c : Child) → slice_get cs x ≡ Some c → same_element e (element_view c.0) ≡ true
    → are_apart (elements cs) ≡ true → AreFound cs ds fs → is_among e (elements ds) ≡ true → is_in x (somes fs) ≡ true
in-found cs [] fs e x c g s apart h t = absurd (true≢false (sym t))
in-found cs (d ∷ ds) [] e x c g s apart h t = absurd h
in-found cs (d ∷ ds) (None ∷ fs) e x c g s apart h t =
    elim (same_element e (element_view d.0)) as (λ b. same_element e (element_view d.0) ≡ b → (b || is_among e (elements ds)) ≡ true
    → is_in x (somes fs) ≡ true) [
      | true ↦ λ u v.
          let there = found-at e cs x c g s apart in
          absurd (none-some c.1 (sym (ap (λ f. child_at f cs) (same_element-true e (element_view d.0) u) ∙ h.0) ∙ there))
      | false ↦ λ u v. in-found cs ds fs e x c g s apart h.1 v
    ] refl t
in-found cs (d ∷ ds) (Some j ∷ fs) e x c g s apart h t =
    elim (same_element e (element_view d.0)) as (λ b. same_element e (element_view d.0) ≡ b → (b || is_among e (elements ds)) ≡ true
    → (eqb x j || is_in x (somes fs)) ≡ true) [
      | true ↦ λ u v.
          let at = child-here (element_view d.0) cs j h.0 in
          let same : x ≡ j =
          same-place e cs x j c at.child g s at.here (ap (λ f. same_element f (element_view at.child.0)) (same_element-true e (element_view d.0) u)
          ∙ at.same) apart in
          ap (λ y. eqb x y || is_in x (somes fs)) (sym same) ∙ ap (λ b. b || is_in x (somes fs)) (same_number x)
      | false ↦ λ u v. ap (λ b. eqb x j || b) (in-found cs ds fs e x c g s apart h.1 v) ∙ or_true (eqb x j)
    ] refl t
  where
    or_true : (b : Bool) → (b || true) ≡ true
    or_true true = refl
    or_true false = refl

-- a child stands at its place
pub at-index : (cs : List Child) (x : ℕ) (c : Child) → slice_get cs x ≡ Some c → IsChildAt (element_view c.0) cs x
at-index [] x c g = absurd (none-some c g)
at-index (y ∷ cs) zero c g = record {
  within = omega arith;
  same = λ d. ap (λ (z : Child). same_element (element_view c.0) (element_view z.0)) (same_Some y c g) ∙ same_element-itself (element_view c.0);
}
at-index (y ∷ cs) (suc x) c g = let rest = at-index cs x c g in let lt = rest.within in record { within = omega arith; same = λ d. rest.same d }

known-from : (bs : Found) (cs : List Child) (os : List Element) → length bs ≡ length cs
    → ((x : ℕ) (c : Child) → slice_get cs x ≡ Some c → is_told bs x ≡ is_among (element_view c.0) os) → AreKnown bs (elements cs) os
known-from [] [] os l h = tt
known-from [] (c ∷ cs) os l h = absurd (omega (arith, l))
known-from (b ∷ bs) [] os l h = absurd (omega (arith, l))
known-from (b ∷ bs) (c ∷ cs) os l h = (h zero c refl, known-from bs cs os (omega (arith, l)) (λ x d g. h (suc x) d g))

-- turned round, places are told for just those of the first children that are among the second
pub known-back : (cs ds : List Child) (fs back : Found) → are_apart (elements cs) ≡ true → AreFound cs ds fs → IsTurnedRound (length cs) fs back
    → AreKnown back (elements cs) (elements ds)
known-back cs ds fs back apart found turned = known-from back cs (elements ds) turned.long (λ x c g.
    turned.there x
    ∙ same_tests (is_in x (somes fs)) (is_among (element_view c.0) (elements ds))
    (λ t. found-in cs ds fs (element_view c.0) x (at-index cs x c g) found t)
    (λ t. in-found cs ds fs (element_view c.0) x c g (same_element-itself (element_view c.0)) apart found t))

-- ---- what goes or comes, and what stays

-- what stays is what is among the others
pub kept-known : (fs : Found) (es os : List Element) → AreKnown fs es os → kept fs es ≡ filter (λ e. is_among e os) es
kept-known [] [] os h = refl
kept-known [] (e ∷ es) os h = absurd h
kept-known (f ∷ fs) [] os h = absurd h
kept-known (None ∷ fs) (e ∷ es) os h = kept-known fs es os h.1 ∙ ap (λ b. cond b (e ∷ filter (λ x. is_among x os) es) (filter (λ x. is_among x os) es)) h.0
kept-known (Some k ∷ fs) (e ∷ es) os h =
    ap (λ xs. e ∷ xs) (kept-known fs es os h.1) ∙ ap (λ b. cond b (e ∷ filter (λ x. is_among x os) es) (filter (λ x. is_among x os) es)) h.0

-- what goes or comes is what is not among the others
pub fresh-known : (fs : Found) (es os : List Element) → AreKnown fs es os → fresh fs es ≡ filter (λ e. not (is_among e os)) es
fresh-known [] [] os h = refl
fresh-known [] (e ∷ es) os h = absurd h
fresh-known (f ∷ fs) [] os h = absurd h
fresh-known (None ∷ fs) (e ∷ es) os h =
    ap (λ xs. e ∷ xs) (fresh-known fs es os h.1) ∙ ap (λ b. cond (not b) (e ∷ filter (λ x. not (is_among x os)) es) (filter (λ x. not (is_among x os)) es)) h.0
fresh-known (Some k ∷ fs) (e ∷ es) os h =
    fresh-known fs es os h.1 ∙ ap (λ b. cond (not b) (e ∷ filter (λ x. not (is_among x os)) es) (filter (λ x. not (is_among x os)) es)) h.0
