use Rattle.std.proofs.Common.{◌≡◌, [], ◌∷◌, refl, ap, ◌∙◌, subst}
use Rattle.std.specs.Vec.Iter.{into_iter_items}
use Rattle.ssa_model.specs.definitions.Json.{item}
use Rattle.ssa_model.specs.definitions.Path.{value}
use Rattle.ssa_model.specs.definitions.Body.{leaf, value_order, value_places}
use Rattle.ssa_json.specs.View.{view, items_view}
use Rattle.ssa_schema.specs.Kinds.{scalar_kind_view}
use Rattle.ssa_typed.proofs.Building.{listing-step}
use Rattle.ssa_model.proofs.FaultlessParts.{ValuesFitAfter, value-rest}
use Rattle.ssa_typed.proofs.build.value_children.Goals as goal

pub loop-item-preserved : goal.loop-item-preserved
loop-item-preserved c =
    let l = c.loop-item in
    let k = scalar_kind_view c.args.kind.now in
    let x = c.in-Some.item in
    let left = into_iter_items c.next.new.self in
    let steps : into_iter_items l.item-iterator ≡ x ∷ left = c.in-Some.ensures.steps.0 in
    let is = c.in_ok-value_child.ensures in
    record {
      listing = listing-step (value is.own) (λ p. (p, leaf is.own) ∷ []) c.in_ok-value_child.field-0 l.children.items c.push.new.self.items
          (value_order (items_view (into_iter_items l.item-iterator))) (value_order (items_view left)) (value_order (items_view c.args.items.items))
          (value_places (items_view (into_iter_items l.item-iterator))) (value_places (items_view left)) (value_places (items_view c.args.items.items))
          is.child refl
          (λ p. ap (λ xs. value_places (items_view xs) p) steps ∙ ap (λ v. value_places (item v (items_view left)) p) is.is_own)
          (ap (λ xs. value_order (items_view xs)) steps ∙ ap (λ v. value_order (item v (items_view left))) is.is_own)
          c.in_ok-push.ensures.items l.invariant.listing;
      fits = value-rest k (view x) (items_view left) (subst (λ xs. ValuesFitAfter k (items_view xs)) steps l.invariant.fits);
    }
