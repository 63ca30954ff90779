-- As many children as others, each of whose elements the others have: so those have no other elements.
use Rattle.std.proofs.Common.{◌≡◌, ◌≤◌, List, [], ◌∷◌, length, true, false, not, ◌||◌, cond, Option, Some, None, refl, sym, ap, subst₂, ◌∙◌, true≢false, arith}
use Rattle.std.specs.List.{All}
use Rattle.std.proofs.lemmas.List.Elements.{All-head, All-tail}
use Rattle.ssa_model.specs.definitions.Kind.{is_among}
use Rattle.ssa_model.specs.definitions.Path.{Element, same_element}
use Rattle.ssa_model.proofs.Basics.{both-true as both, some-same, some≢none as some-none}
use Rattle.ssa_model.proofs.Fitting.{same_element-true}
use Rattle.ssa_path.specs.Children.{child_at, elements}
use Rattle.ssa_path.specs.View.{element_view}
use Rattle.ssa_path.specs.declared.element.Elem.{Elem}
use Rattle.ssa_path.proofs.Lists.{length-elements}
use Rattle.ssa_typed.specs.Rows.{are_apart}
use Rattle.ssa_typed.specs.declared.node.Node.{Node}
use Rattle.ssa_typed.proofs.Building.{Child}
use Rattle.ssa_typed.proofs.Counting.{no-more}
use Rattle.ssa_typed.proofs.Lookups.{child_at-none}
use Rattle.ssa_typed.proofs.SortedOut.{is_absent, none-among}

-- what holds of each child by its element holds of each child that is found
pub of-found : (P : Element → Node → Type 0) (cs : List Child) → All (λ c. P (element_view c.0) c.1) cs → (e : Element) (c : Node)
    → child_at e cs ≡ Some c → P e c
of-found P [] all e c is = cc
of-found P (x ∷ cs) all e c is =
    elim (same_element e (element_view x.0)) as (λ b. same_element e (element_view x.0) ≡ b → cond b (Some x.1) (child_at e cs) ≡ Some c → P e c) [
      | true ↦ λ s k. subst₂ P (sym (same_element-true e (element_view x.0) s)) (some-same x.1 c k) (All-head (λ c. P (element_view c.0) c.1) x cs all)
      | false ↦ λ s k. of-found P cs (All-tail (λ c. P (element_view c.0) c.1) x cs all) e c k
    ] refl is

-- an element that a child has is among the elements
pub among-found : {A : Type 0} (e : Element) (cs : List (Elem × A)) (c : A) → child_at e cs ≡ Some c → is_among e (elements cs) ≡ true
among-found e cs c is =
    elim (is_among e (elements cs)) as (λ b. is_among e (elements cs) ≡ b → b ≡ true) [
      | true ↦ λ h. refl
      | false ↦ λ h. absurd (some-none c (sym is ∙ child_at-none e cs h))
    ] refl

-- an element that is not found is not among the elements
pub among-not-found : (e : Element) (cs : List Child) → child_at e cs ≡ None → is_among e (elements cs) ≡ false
among-not-found e cs is = none-among e cs (ap is_absent is)

module _ (es fs : List Element) (apart : are_apart es ≡ true) (long : length es ≡ length fs)
    (there : (e : Element) → is_among e es ≡ true → is_among e fs ≡ true) where
  with-one : (e : Element) → is_among e fs ≡ true → (x : Element) → is_among x (e ∷ es) ≡ true → is_among x fs ≡ true
  with-one e among x one =
      elim (same_element x e) as (λ b. same_element x e ≡ b → (b || is_among x es) ≡ true → is_among x fs ≡ true) [
        | true ↦ λ s k. ap (λ y. is_among y fs) (same_element-true x e s) ∙ among
        | false ↦ λ s k. there x k
      ] refl one

  -- the others' elements are these
  pub no-other : (e : Element) → is_among e fs ≡ true → is_among e es ≡ true
  no-other e among =
      elim (is_among e es) as (λ b. is_among e es ≡ b → b ≡ true) [
        | true ↦ λ h. refl
        | false ↦ λ h.
            let more : length (e ∷ es) ≤ length fs = no-more (e ∷ es) fs (both (not (is_among e es)) _ (ap not h) apart) (with-one e among) in
            absurd (omega arith)
      ] refl

module _ (cs ds : List Child) (apart : are_apart (elements cs) ≡ true) (long : length cs ≡ length ds)
    (there : (e : Element) (c : Node) → child_at e cs ≡ Some c → is_among e (elements ds) ≡ true) where
  known : (e : Element) → is_among e (elements cs) ≡ true → is_among e (elements ds) ≡ true
  known e among =
      elim (child_at e cs) as (λ o. child_at e cs ≡ o → is_among e (elements ds) ≡ true) [
        | None ↦ λ h. absurd (true≢false (sym among ∙ among-not-found e cs h))
        | Some c ↦ λ h. there e c h
      ] refl

  -- where none of the children has an element, none of the others has it
  pub absent-too : (e : Element) → child_at e cs ≡ None → child_at e ds ≡ None
  absent-too e none =
      child_at-none e ds (elim (is_among e (elements ds)) as (λ b. is_among e (elements ds) ≡ b → b ≡ false) [
        | true ↦ λ h.
            let among = no-other (elements cs) (elements ds) apart (length-elements cs ∙ long ∙ sym (length-elements ds)) known e h in
            absurd (true≢false (sym among ∙ among-not-found e cs none))
        | false ↦ λ h. refl
      ] refl)
