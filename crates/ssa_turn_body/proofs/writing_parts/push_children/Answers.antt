use Rattle.std.proofs.Common.{◌^◌, arith, refl, slice_index_or}
use Rattle.ssa_path.specs.View.{path_view}
use Rattle.ssa_typed.proofs.Values.{tree-at}
use Rattle.ssa_turn_body.specs.ToldValues.{told_view}
use Rattle.ssa_turn_body.proofs.ToldSteps.{below-at, comes-on}
use Rattle.ssa_turn_body.proofs.writing_parts.push_children.Goals as goal

pub place_after-place-requires : goal.place_after-place-requires
place_after-place-requires c =
    let lt = c.loop-i-test.true in
    let each = c.requires.each in
    below-at (2 ^ 63) c.args.places.now c.loop-i.i (slice_index_or c.args.places.now c.loop-i.i 0) 0 (omega (arith, lt, each)) refl c.requires.small

pub push_child-requires-clause-tree : goal.push_child-requires-clause-tree
push_child-requires-clause-tree c = tree-at c.args.held.now c.loop-i.i c.index-held-i.result c.loop-i-test.true c.index-held-i.is c.requires.trees

pub loop-i-preserved : goal.loop-i-preserved
loop-i-preserved c =
    comes-on (path_view c.args.at.now) (path_view c.args.order.now) c.args.places.now c.args.held.now c.loop-i.i
    (slice_index_or c.args.places.now c.loop-i.i 0) 0 c.index-held-i.result
    c.place_after-place.result (told_view c.args.told.now.items) (told_view c.loop-i.told.items) (told_view c.push_child.new.told.items) c.requires.each
    c.loop-i-test.true refl c.index-held-i.is c.place_after-place.ensures.value c.loop-i.invariant c.in_ok-push_child.ensures
