use Rattle.std.proofs.Common.{ap, subst, ◌∙◌}
use Rattle.std.proofs.lemmas.Option.{none-some, same_Some}
use Rattle.std.specs.Option.{option_map}
use Rattle.ssa_record.specs.Refilled.{lent_elements, IsLentOrder}
use Rattle.ssa_record.proofs.order_after.order_after.Goals as goal

pub returns-in_ok-order-in-Some-2-clause-refilled : goal.returns-in_ok-order-in-Some-2-clause-refilled
returns-in_ok-order-in-Some-2-clause-refilled c = λ none fs r.
    let lent = subst (λ o. IsLentOrder (option_map (λ v. v.items) o) fs) c.in-Some-2.is (c.in_ok-lent.ensures fs r) in
    c.in_ok-order-in-Some-2.ensures ∙ ap lent_elements c.deref.ensures.value ∙ same_Some _ _ lent

pub returns-in-None-clause-refilled : goal.returns-in-None-clause-refilled
returns-in-None-clause-refilled c = λ none fs r. none-some _
    (subst (λ o. IsLentOrder (option_map (λ v. v.items) o) fs) c.in-None.is (c.in_ok-lent.ensures fs r))
