use Rattle.std.proofs.Common.{◌∙◌}
use Rattle.std.specs.Vec.Iter.{into_iter_items}
use Rattle.ssa_typed.proofs.LivePlaces.{placed-here, placed-on}
use Rattle.ssa_typed.proofs.Refilling.{turning-new, turning-own}
use Rattle.ssa_typed.proofs.in_turn.in_turn.Goals as goal

pub loop-child-preserved-in-Continue-branch-4 : goal.loop-child-preserved-in-Continue-branch-4
loop-child-preserved-in-Continue-branch-4 c =
    let cs = c.args.live.now in
    let l = c.loop-child in
    let all = into_iter_items l.child-iterator in
    let left = into_iter_items c.next.new.self in
    let d = c.in-Some.child in
    let is = c.in-Some.ensures.steps.0 in
    let found = c.args.found.items in
    let here = placed-here cs all left d found l.i is l.invariant.1 c.index-place.result.now c.index-place.ensures in (
      turning-own cs c.args.config.items all left l.places.keys l.own.items l.new.items d c.requires.config is l.invariant.0 c.in-Some-place.place
          c.insert.new.self.keys c.push.new.self.items (here ∙ c.in-Some-place.is) c.in_ok-insert-in-Some-place.ensures.keys
          c.in_ok-push-in-Some-place.ensures.items,
      placed-on cs all left d found l.i is l.invariant.1,
    )

pub loop-child-preserved : goal.loop-child-preserved
loop-child-preserved c =
    let cs = c.args.live.now in
    let l = c.loop-child in
    let all = into_iter_items l.child-iterator in
    let left = into_iter_items c.next.new.self in
    let d = c.in-Some.child in
    let is = c.in-Some.ensures.steps.0 in
    let found = c.args.found.items in
    let here = placed-here cs all left d found l.i is l.invariant.1 c.index-place.result.now c.index-place.ensures in (
      turning-new cs c.args.config.items all left l.places.keys l.own.items l.new.items d c.requires.config is l.invariant.0
          c.push-in-None-place.new.self.items (here ∙ c.in-None-place.is) c.in_ok-push-in-None-place.ensures.items,
      placed-on cs all left d found l.i is l.invariant.1,
    )
