use Rattle.std.proofs.Common.{ap, arith, set, ◌∙◌}
use Rattle.std.specs.Vec.Iter.{into_iter_items}
use Rattle.ssa_typed.proofs.LivePlaces.{placed-here, placed-on}
use Rattle.ssa_typed.proofs.SortedOut.{slot-within, sorting-beside, sorting-new}
use Rattle.ssa_typed.proofs.merged_order.sorted_out.Goals as goal

pub index_mut-requires : goal.index_mut-requires
index_mut-requires c =
    let cs = c.args.live.now in
    let l = c.loop-child in
    let all = into_iter_items l.child-iterator in
    let left = into_iter_items c.next.new.self in
    let d = c.in-Some.child in
    let is = c.in-Some.ensures.steps.0 in
    let here = placed-here cs all left d c.in_ok-found.found.items l.i is l.invariant.1 c.index-place.result.now c.index-place.ensures in
    let within = slot-within cs c.args.config.items all left l.beside.items l.new.items d c.requires.live c.requires.config is l.invariant.0
    c.in-Some-place.place (here ∙ c.in-Some-place.is) in
    omega (arith, within, l.beside.ok.0)

pub loop-child-preserved-in-Some-place : goal.loop-child-preserved-in-Some-place
loop-child-preserved-in-Some-place c =
    let cs = c.args.live.now in
    let l = c.loop-child in
    let all = into_iter_items l.child-iterator in
    let left = into_iter_items c.next.new.self in
    let d = c.in-Some.child in
    let is = c.in-Some.ensures.steps.0 in
    let found = c.in_ok-found.found.items in
    let here = placed-here cs all left d found l.i is l.invariant.1 c.index-place.result.now c.index-place.ensures in
    let i = c.in-Some-place.place in (
      sorting-beside cs c.args.config.items all left l.beside.items l.new.items d c.requires.live c.requires.config is l.invariant.0 i _
          (here ∙ c.in-Some-place.is) (ap (set l.beside.items i) c.put.ensures),
      placed-on cs all left d found l.i is l.invariant.1,
    )

pub loop-child-preserved : goal.loop-child-preserved
loop-child-preserved c =
    let cs = c.args.live.now in
    let l = c.loop-child in
    let all = into_iter_items l.child-iterator in
    let left = into_iter_items c.next.new.self in
    let d = c.in-Some.child in
    let is = c.in-Some.ensures.steps.0 in
    let found = c.in_ok-found.found.items in
    let here = placed-here cs all left d found l.i is l.invariant.1 c.index-place.result.now c.index-place.ensures in (
      sorting-new cs c.args.config.items all left l.beside.items l.new.items d c.requires.live c.requires.config is l.invariant.0
          c.push.new.self.items (here ∙ c.in-None-place.is) c.in_ok-push-in-None-place.ensures.items,
      placed-on cs all left d found l.i is l.invariant.1,
    )
