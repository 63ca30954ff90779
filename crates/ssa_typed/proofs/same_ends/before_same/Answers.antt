use Rattle.std.proofs.Common.{◌≡◌, ◌+◌, ◌-◌, ◌<◌, length, subst₂, arith}
use Rattle.ssa_path.specs.View.{element_view}
use Rattle.ssa_typed.proofs.Left.{IsTaken, taken-all, taken-less}
use Rattle.ssa_typed.proofs.Lookups.{child-tree}
use Rattle.ssa_typed.proofs.Overlaying.{child-at-index}
use Rattle.ssa_typed.proofs.same_ends.before_same.Goals as goal

pub loop-own_len-init : goal.loop-own_len-init
loop-own_len-init c = taken-all c.args.own.now c.args.others.now c.requires.own_apart c.requires.others_apart

pub is_same_child-requires-clause-own : goal.is_same_child-requires-clause-own
is_same_child-requires-clause-own c =
    let cs = c.args.own.now in
    let child = c.index-own-own_len.result in
    let within = c.loop-own_len.invariant.within in
    let lt : c.loop-own_len.own_len - 1 < length cs = omega arith in
    child-tree (element_view child.0) cs child.1 c.requires.own
    (child-at-index cs (c.loop-own_len.own_len - 1) child lt c.index-own-own_len.is c.requires.own_apart)

pub is_same_child-requires-clause-other : goal.is_same_child-requires-clause-other
is_same_child-requires-clause-other c =
    let ds = c.args.others.now in
    let child = c.index-others-len.result in
    let within = c.loop-own_len.invariant.other_within in
    let lt : c.loop-own_len.len - 1 < length ds = omega arith in
    child-tree (element_view child.0) ds child.1 c.requires.others
    (child-at-index ds (c.loop-own_len.len - 1) child lt c.index-others-len.is c.requires.others_apart)

pub loop-own_len-preserved : goal.loop-own_len-preserved
loop-own_len-preserved c =
    let l = c.loop-own_len in
    let cs = c.args.own.now in
    let ds = c.args.others.now in
    let within = l.invariant.within in
    let other_within = l.invariant.other_within in
    let lt : l.own_len - 1 < length cs = omega arith in
    let other_lt : l.len - 1 < length ds = omega arith in
    let own_is : l.own_len ≡ l.own_len - 1 + 1 = omega arith in
    let other_is : l.len ≡ l.len - 1 + 1 = omega arith in
    taken-less cs ds (l.own_len - 1) (l.len - 1) c.index-own-own_len.result c.index-others-len.result lt other_lt c.index-own-own_len.is c.index-others-len.is
    (c.is_same_child.ensures.element c.if-not-is_same_child.false) (c.is_same_child.ensures.tree c.if-not-is_same_child.false)
    (subst₂ (IsTaken cs ds) own_is other_is l.invariant)

pub returns : goal.returns
returns c = c.loop-own_len.invariant.left
