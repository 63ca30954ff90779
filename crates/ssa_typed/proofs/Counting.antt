-- How many elements there are where each is named once.
use Rattle.std.proofs.Common.{◌≡◌, ◌<◌, ◌≤◌, length, List, [], ◌∷◌, true, false, not, ◌||◌, cond, refl, sym, ap, ◌∙◌, true≢false, arith}
use Rattle.std.specs.Prelude.{filter}
use Rattle.std.proofs.lemmas.List.Filters.{length-filter_both}
use Rattle.ssa_model.specs.definitions.Kind.{is_among}
use Rattle.ssa_model.specs.definitions.Path.{Element, same_element}
use Rattle.ssa_model.proofs.Basics.{both-true as both, not_true, or_true, yes_no}
use Rattle.ssa_model.proofs.Fitting.{among-filter, same_element-true}
use Rattle.ssa_model.proofs.Tables.{element-itself as same_element-itself, true_or}
use Rattle.ssa_model.proofs.Tests.{by_test}
use Rattle.ssa_path.proofs.Orders.{both_first, both_second}
use Rattle.ssa_typed.specs.Rows.{are_apart}

others : Element → List Element → List Element
others e fs = filter (λ f. not (same_element e f)) fs

no-longer : (e : Element) (fs : List Element) → length (others e fs) ≤ length fs
unfolding others
no-longer e fs =
    let both_parts = length-filter_both (λ f. not (same_element e f)) (λ f. not (not (same_element e f))) (λ f. refl) fs in
    omega arith

shorter : (e : Element) (fs : List Element) → is_among e fs ≡ true → length (others e fs) < length fs
unfolding others
shorter e [] h = absurd (true≢false (sym h))
shorter e (f ∷ fs) h =
    elim (same_element e f) as (λ b. same_element e f ≡ b → length (cond (not b) (f ∷ others e fs) (others e fs)) < length (f ∷ fs)) [
      | true ↦ λ s. let le = no-longer e fs in omega arith
      | false ↦ λ s. let lt = shorter e fs (sym (ap (λ b. b || is_among e fs) s) ∙ h) in omega arith
    ] refl

-- elements that are all among others, each named once, are no more than those
pub no-more : (es fs : List Element) → are_apart es ≡ true → ((e : Element) → is_among e es ≡ true → is_among e fs ≡ true) → length es ≤ length fs
unfolding others
no-more [] fs apart h = omega arith
no-more (e ∷ es) fs apart h =
    let off : is_among e es ≡ false = not_true _ (both_first (not (is_among e es)) _ apart) in
    let rest = no-more es (others e fs) (both_second (not (is_among e es)) _ apart) (λ x one.
    among-filter (λ f. not (same_element e f)) fs x
    ∙ both (is_among x fs) (not (same_element e x)) (h x (or_true (same_element x e) (is_among x es) one))
    (by_test (same_element e x) (λ s. yes_no (is_among x es) one (ap (λ y. is_among y es) (sym (same_element-true e x s)) ∙ off)) (λ s. ap not s))) in
    let less = shorter e fs (h e (true_or (same_element e e) (is_among e es) (same_element-itself e))) in
    omega arith
