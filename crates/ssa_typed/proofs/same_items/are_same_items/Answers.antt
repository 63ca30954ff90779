use Rattle.std.proofs.Common.{◌≡◌, get_or, length, arith, subst, ◌∙◌}
use Rattle.std.specs.List.{All}
use Rattle.std.proofs.lemmas.List.{take_all}
use Rattle.ssa_path.specs.View.{element_view}
use Rattle.ssa_typed.proofs.InOneOrder.{placed-child}
use Rattle.ssa_typed.proofs.LivePlaces.{told-at}
use Rattle.ssa_typed.proofs.Lookups.{child-tree}
use Rattle.ssa_typed.proofs.Overlaying.{child-at-index}
use Rattle.ssa_typed.proofs.SameItems.{IsSameOf, none-left, same-on}
use Rattle.ssa_typed.proofs.SortedOut.{place-within}
use Rattle.ssa_typed.proofs.same_items.are_same_items.Goals as goal

pub offset_bounds-own-place : goal.offset_bounds-own-place
offset_bounds-own-place c =
    let cs = c.args.own.now in
    let ds = c.args.others.now in
    let d = c.index-others-i.result in
    let e = element_view d.0 in
    let place = c.in-Some.place in
    let told = told-at cs ds c.loop-i.i d c.index.result.now c.in_ok-places.places.items c.loop-i-test.true c.index-others-i.is c.in_ok-places.ensures
    c.index.ensures ∙ c.in-Some.is in
    let there = place-within e cs place told in
    omega arith

pub bounds-own-place : goal.bounds-own-place
bounds-own-place c =
    let cs = c.args.own.now in
    let ds = c.args.others.now in
    let d = c.index-others-i.result in
    let e = element_view d.0 in
    let place = c.in-Some.place in
    let told = told-at cs ds c.loop-i.i d c.index.result.now c.in_ok-places.places.items c.loop-i-test.true c.index-others-i.is c.in_ok-places.ensures
    c.index.ensures ∙ c.in-Some.is in
    place-within e cs place told

pub is_same-requires-clause-own : goal.is_same-requires-clause-own
is_same-requires-clause-own c =
    let cs = c.args.own.now in
    let ds = c.args.others.now in
    let d = c.index-others-i.result in
    let e = element_view d.0 in
    let place = c.in-Some.place in
    let told = told-at cs ds c.loop-i.i d c.index.result.now c.in_ok-places.places.items c.loop-i-test.true c.index-others-i.is c.in_ok-places.ensures
    c.index.ensures ∙ c.in-Some.is in
    let x = get_or cs place c.index-own-place.result in
    let own = placed-child e cs place c.index-own-place.result told in
    child-tree e cs x.1 c.requires.own own

pub is_same-requires-clause-other : goal.is_same-requires-clause-other
is_same-requires-clause-other c =
    let ds = c.args.others.now in
    let d = c.index-others-i.result in
    child-tree (element_view d.0) ds d.1 c.requires.others (child-at-index ds c.loop-i.i d c.loop-i-test.true c.index-others-i.is c.requires.others_apart)

pub loop-i-preserved : goal.loop-i-preserved
loop-i-preserved c =
    let cs = c.args.own.now in
    let ds = c.args.others.now in
    let d = c.index-others-i.result in
    let e = element_view d.0 in
    let place = c.in-Some.place in
    let told = told-at cs ds c.loop-i.i d c.index.result.now c.in_ok-places.places.items c.loop-i-test.true c.index-others-i.is c.in_ok-places.ensures
    c.index.ensures ∙ c.in-Some.is in
    let x = get_or cs place c.index-own-place.result in
    let own = placed-child e cs place c.index-own-place.result told in
    same-on cs ds c.loop-i.i d x.1 c.loop-i-test.true c.index-others-i.is own (c.is_same.ensures c.if-not-is_same.false) c.loop-i.invariant

pub returns : goal.returns
returns c = λ _.
    let cs = c.args.own.now in
    let ds = c.args.others.now in
    let long : length ds ≡ length cs = omega arith in
    none-left cs ds c.requires.others_apart long (subst (All (IsSameOf cs)) (take_all c.loop-i.i ds c.loop-i-test.false) c.loop-i.invariant)
