-- What steps tell, one step after the other, as values.
use Rattle.std.proofs.Common.{Option, Some, cond, append_assoc, ◌≡◌, ℕ, zero, suc, ◌+◌, ◌<◌, List, [], ◌∷◌, ◌++◌, length, get_or, take, refl, sym, ap, ◌∙◌, arith, append-nil, subst}
use Rattle.std.proofs.lemmas.List.{map-append}
use Rattle.std.proofs.lemmas.Iterator.Adapters.{position_from-zero}
use Rattle.std.specs.List.{position, position_from}
use Rattle.ssa_model.specs.definitions.Json.{Json}
use Rattle.ssa_model.specs.definitions.Path.{Element, Path, same_element}
use Rattle.ssa_path.specs.View.{element_view, path_view}
use Rattle.ssa_path.specs.declared.element.Elem.{Elem}
use Rattle.ssa_turn_body.specs.Found.{AreBelow}
use Rattle.ssa_path.proofs.Lists.{taken-at}
use Rattle.ssa_turn_body.specs.Marks.{Child}
use Rattle.ssa_turn_body.specs.Records.{at_place, place_after, told_by}
use Rattle.ssa_turn_body.specs.ToldValues.{as_values, Coming, coming_at, coming_json, comes_of}
use Rattle.ssa_turn_body.specs.Writable.{AreWritable, IsWritable}
use Rattle.ssa_turn_body.specs.declared.change.PlaceChange.{PlaceChange}
use Rattle.ssa_turn_body.specs.declared.steps.Step.{Step}
use Rattle.ssa_turn_body.proofs.Saying.{told-append}

module _ {X : Type 0} (f : PlaceChange → List (Path × X)) where
  told-last : (ss : List Step) (s : Step) → told_by f (ss ++ s ∷ []) ≡ told_by f ss ++ at_place (path_view s.path.items) (f s.change)
  told-last ss s = told-append f ss (s ∷ []) ∙ ap (λ l. told_by f ss ++ l) (append-nil (at_place (path_view s.path.items) (f s.change)))

  -- one step more
  told-more : (g : Path × X → Json) (ss : List Step) (i : ℕ) (s : Step) → i < length ss → s ≡ get_or ss i s
      → as_values g (told_by f (take (i + 1) ss)) ≡ as_values g (told_by f (take i ss)) ++ as_values g (at_place (path_view s.path.items) (f s.change))
  told-more g ss i s lt is =
      ap (λ l. as_values g (told_by f l)) (taken-at ss i s lt is) ∙ ap (as_values g) (told-last (take i ss) s)
      ∙ map-append (λ (e : Path × X). (e.0, g e)) (told_by f (take i ss)) (at_place (path_view s.path.items) (f s.change))

  -- what is pushed for one step more
  pub told-on : (g : Path × X → Json) (ss : List Step) (i : ℕ) (s : Step) (old new : List (Path × Json)) → i < length ss → s ≡ get_or ss i s
      → old ≡ as_values g (told_by f (take i ss)) → new ≡ old ++ as_values g (at_place (path_view s.path.items) (f s.change))
      → new ≡ as_values g (told_by f (take (i + 1) ss))
  told-on g ss i s old new lt is before after =
      after ∙ ap (λ l. l ++ as_values g (at_place (path_view s.path.items) (f s.change))) before ∙ sym (told-more g ss i s lt is)

-- a step of those that can be written
pub writable-at : (ss : List Step) (i : ℕ) (s : Step) → i < length ss → s ≡ get_or ss i s → AreWritable ss → IsWritable s.change
writable-at [] i s lt is h = absurd (omega arith)
writable-at (t ∷ ss) zero s lt is h = subst (λ x. IsWritable x.change) (sym is) h.0
writable-at (t ∷ ss) (suc i) s lt is h = writable-at ss i s (omega arith) is h.1

-- one child more that comes
pub comes-more : (order : List Element) (ks : List ℕ) (hs : List Child) (i k n : ℕ) (h : Child) → i < length ks → i < length hs
    → k ≡ get_or ks i n → h ≡ get_or hs i h → comes_of order (take (i + 1) ks) (take (i + 1) hs) ≡ comes_of order (take i ks) (take i hs)
    ++ coming_at order k h ∷ []
comes-more order [] hs i k n h lk lh ik ih = absurd (omega arith)
comes-more order (x ∷ ks) [] i k n h lk lh ik ih = absurd (omega arith)
comes-more order (x ∷ ks) (y ∷ hs) zero k n h lk lh ik ih = λ i. coming_at order (sym ik i) (sym ih i) ∷ []
comes-more order (x ∷ ks) (y ∷ hs) (suc i) k n h lk lh ik ih =
    let next : suc i + 1 ≡ suc (i + 1) = omega arith in
    ap (λ j. comes_of order (take j (x ∷ ks)) (take j (y ∷ hs))) next
    ∙ ap (λ l. coming_at order x y ∷ l) (comes-more order ks hs i k n h (omega arith) (omega arith) ik ih)

-- one child more that comes adds its value, with its path and the place where it stands afterwards
pub comes-on : (p : Path) (order : List Element) (ks : List ℕ) (hs : List Child) (i k n : ℕ) (h : Child) (place : Option ℕ) (first old new : List (Path × Json))
    → length hs ≡ length ks → i < length hs → k ≡ get_or ks i n → h ≡ get_or hs i h → place ≡ place_after order (element_view h.0) k
    → old ≡ first ++ as_values coming_json (at_place p (comes_of order (take i ks) (take i hs)))
    → new ≡ old ++ as_values coming_json ((p ++ element_view h.0 ∷ [], (h.1, place)) ∷ [])
    → new ≡ first ++ as_values coming_json (at_place p (comes_of order (take (i + 1) ks) (take (i + 1) hs)))
comes-on p order ks hs i k n h place first old new each lt ik ih is before after =
    let done = comes_of order (take i ks) (take i hs) in
    let one = coming_at order k h ∷ [] in
    after ∙ (λ j. before j ++ as_values coming_json ((p ++ element_view h.0 ∷ [], (h.1, is j)) ∷ []))
    ∙ append_assoc first (as_values coming_json (at_place p done)) (as_values coming_json (at_place p one))
    ∙ ap (λ l. first ++ l) (sym (map-append (λ (e : Path × Coming). (e.0, coming_json e)) (at_place p done) (at_place p one))
    ∙ ap (as_values coming_json) (sym (map-append (λ (e : Path × Coming). (p ++ e.0, e.1)) done one)
    ∙ ap (at_place p) (sym (comes-more order ks hs i k n h (omega arith) lt ik ih))))

-- each of some places is small
pub below-at : (m : ℕ) (ks : List ℕ) (i k n : ℕ) → i < length ks → k ≡ get_or ks i n → AreBelow m ks → k < m
below-at m [] i k n lt is h = absurd (omega arith)
below-at m (x ∷ ks) zero k n lt is h = subst (λ y. y < m) (sym is) h.0
below-at m (x ∷ ks) (suc i) k n lt is h = below-at m ks i k n (omega arith) is h.1

-- the place of an element among those that are told
pub placed-from : (e : Element) (es : List Elem) (k : ℕ)
    → position_from (λ x. same_element e (element_view x)) k es ≡ position_from (same_element e) k (path_view es)
placed-from e [] k = refl
placed-from e (x ∷ es) k = ap (cond (same_element e (element_view x)) (Some k)) (placed-from e es (k + 1))

-- the place of an element among those of the program is that among the elements that they stand for
pub placed-in : (e : Element) (es : List Elem) → position (λ x. same_element e (element_view x)) es ≡ position_from (same_element e) 0 (path_view es)
placed-in e es = position_from-zero (λ (x : Elem). same_element e (element_view x)) es ∙ placed-from e es 0
