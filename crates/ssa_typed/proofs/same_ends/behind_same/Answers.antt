use Rattle.std.proofs.Common.{ap, sym, subst₂, ◌∙◌}
use Rattle.std.proofs.lemmas.List.{take_rest}
use Rattle.ssa_typed.specs.Rows.{are_trees}
use Rattle.ssa_typed.specs.Same.{AreLeft}
use Rattle.ssa_typed.proofs.Left.{passed-more, passed-none, passed-trees}
use Rattle.ssa_typed.proofs.same_ends.behind_same.Goals as goal

pub loop-place-init : goal.loop-place-init
loop-place-init c = passed-none c.args.own.now c.args.others.now c.requires.own_apart c.requires.others_apart c.requires.own c.requires.others

pub is_same_child-requires-clause-own : goal.is_same_child-requires-clause-own
is_same_child-requires-clause-own c =
    (passed-trees c.args.own.now c.args.others.now c.loop-place.place c.index-own-place.result c.index-others-place.result c.loop-place-test.true
    c.if-place-others.true c.index-own-place.is c.index-others-place.is c.loop-place.invariant).0

pub is_same_child-requires-clause-other : goal.is_same_child-requires-clause-other
is_same_child-requires-clause-other c =
    (passed-trees c.args.own.now c.args.others.now c.loop-place.place c.index-own-place.result c.index-others-place.result c.loop-place-test.true
    c.if-place-others.true c.index-own-place.is c.index-others-place.is c.loop-place.invariant).1

pub loop-place-preserved : goal.loop-place-preserved
loop-place-preserved c =
    passed-more c.args.own.now c.args.others.now c.loop-place.place c.index-own-place.result c.index-others-place.result c.loop-place-test.true
    c.if-place-others.true c.index-own-place.is c.index-others-place.is c.loop-place.invariant
    (c.is_same_child.ensures.element c.if-not-is_same_child.false) (c.is_same_child.ensures.tree c.if-not-is_same_child.false)

pub returns-clause-left : goal.returns-clause-left
returns-clause-left c =
    let i = c.loop-place.place in
    subst₂ (AreLeft c.args.own.now c.args.others.now) (sym (take_rest c.args.own.now i)) (sym (take_rest c.args.others.now i)) c.loop-place.invariant.left

pub returns-clause-own : goal.returns-clause-own
returns-clause-own c = ap are_trees (take_rest c.args.own.now c.loop-place.place) ∙ c.loop-place.invariant.own_trees

pub returns-clause-others : goal.returns-clause-others
returns-clause-others c = ap are_trees (take_rest c.args.others.now c.loop-place.place) ∙ c.loop-place.invariant.others_trees
