use Rattle.std.proofs.Common.{ap, sym, subst, ◌+◌, ◌∙◌, ◌++◌, ◌∷◌, [], take, map}
use Rattle.std.proofs.lemmas.List.{take_more}
use Rattle.ssa_path.specs.Children.{child_at}
use Rattle.ssa_path.specs.View.{element_view}
use Rattle.ssa_typed.specs.MergedOrder.{lent_place, places}
use Rattle.ssa_typed.specs.Rows.{below}
use Rattle.ssa_turn_body.specs.Found.{AreFound}
use Rattle.ssa_turn_body.proofs.Matching.{found-push, place-found, place-told}
use Rattle.ssa_turn_body.proofs.found.places_in.Goals as goal

pub loop-child-preserved : goal.loop-child-preserved
loop-child-preserved c =
    let cs = below c.args.own.now in
    let ds = c.args.others.now in
    let i = c.loop-child.child-index in
    let d = c.child-item.result in
    let e = element_view d.0 in
    let told = place-told e cs c.find_place-place.result
    (c.find_place-place.ensures ∙ ap (λ ps. child_at e (map lent_place ps)) c.deref.ensures.value ∙ c.in_ok-sorted.ensures.same e
    ∙ ap (λ xs. child_at e (places xs)) c.children-2.ensures.own) in
    let more = found-push cs (take i ds) c.loop-child.found.items d _ c.loop-child.invariant (place-found cs d _ told.0 told.1) in
    subst (AreFound cs (take (i + 1) ds)) (sym c.in_ok-push.ensures.items)
    (subst (λ xs. AreFound cs xs (c.loop-child.found.items ++ c.find_place-place.result ∷ [])) (ap (λ x. take i ds ++ x ∷ []) c.child-item.is
    ∙ sym (take_more ds i d c.loop-child-test.true)) more)
