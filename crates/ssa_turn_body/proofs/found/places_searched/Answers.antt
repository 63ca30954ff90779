use Rattle.std.proofs.Common.{ap, sym, subst, ◌+◌, ◌∙◌, ◌++◌, ◌∷◌, [], take}
use Rattle.std.proofs.lemmas.List.{take_more}
use Rattle.ssa_typed.specs.Rows.{below}
use Rattle.ssa_turn_body.specs.Found.{AreFound}
use Rattle.ssa_turn_body.proofs.Matching.{found-push, place-found}
use Rattle.ssa_turn_body.proofs.found.places_searched.Goals as goal

pub loop-child-preserved : goal.loop-child-preserved
loop-child-preserved c =
    let cs = below c.args.own.now in
    let ds = c.args.others.now in
    let i = c.loop-child.child-index in
    let d = c.child-item.result in
    let place = c.place_of-searched.result in
    let here = place-found cs d place c.place_of-searched.ensures.some c.place_of-searched.ensures.none in
    let more = found-push cs (take i ds) c.loop-child.found.items d place c.loop-child.invariant here in
    subst (AreFound cs (take (i + 1) ds)) (sym c.in_ok-push.ensures.items)
    (subst (λ xs. AreFound cs xs (c.loop-child.found.items ++ place ∷ [])) (ap (λ x. take i ds ++ x ∷ []) c.child-item.is
    ∙ sym (take_more ds i d c.loop-child-test.true)) more)
