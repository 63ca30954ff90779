use Rattle.std.proofs.Common.{◌<◌, length, get_or, ap, sym, subst₂, ◌∙◌, arith, rules}
use Rattle.std.proofs.lemmas.List.{take_all}
use Rattle.ssa_path.specs.Children.{child_at, elements}
use Rattle.ssa_path.specs.View.{element_view}
use Rattle.ssa_typed.specs.Same.{AreSame}
use Rattle.ssa_typed.proofs.Lookups.{tree-child}
use Rattle.ssa_typed.proofs.Overlaying.{child-at-index}
use Rattle.ssa_typed.proofs.Pairs.{Each, each-more, same-length, beside}
use Rattle.ssa_typed.proofs.SameTrees.{same-level}
use Rattle.ssa_typed.proofs.Sizes.{smaller}
use Rattle.ssa_typed.proofs.node.Node.+is_same.Goals as goal

pub is_same_below-bounds-others-i : goal.is_same_below-bounds-others-i
is_same_below-bounds-others-i t c =
    let same = ap elements c.children-own.ensures.own ∙ c.is_alike.ensures.children c.if-not-is_alike.false ∙ ap elements (sym c.children-others.ensures.own) in
    let long = same-length c.children-own.result.now c.children-others.result.now same in
    omega arith

pub is_same_below-is_same-requires : goal.is_same_below-is_same-requires
is_same_below-is_same-requires t c =
    let n = c.args.self.now in
    let m = c.args.other.now in
    let child = c.index-own-i.result in
    let e = element_view child.0 in
    let cs = c.children-own.result.now in
    let ds = c.children-others.result.now in
    let i = c.loop-i.i in
    let same = ap elements c.children-own.ensures.own ∙ c.is_alike.ensures.children c.if-not-is_alike.false ∙ ap elements (sym c.children-others.ensures.own) in
    let own = ap (child_at e) (sym c.children-own.ensures.own)
    ∙ child-at-index cs i child c.loop-i-test.true c.index-own-i.is (c.children-own.ensures.apart c.requires.own) in
    let other = beside m cs ds i child c.index-others-i.result c.children-others.ensures.own (c.children-others.ensures.apart c.requires.other) same
    c.loop-i-test.true c.index-own-i.is c.index-others-i.is in
    let small = smaller n e child.1 own in
    (search (rules, small), (tree-child n e child.1 c.requires.own own, tree-child m e (get_or ds i c.index-others-i.result).1 c.requires.other other))

pub is_same_below-loop-i-preserved : goal.is_same_below-loop-i-preserved
is_same_below-loop-i-preserved t c =
    let cs = c.children-own.result.now in
    let ds = c.children-others.result.now in
    let i = c.loop-i.i in
    let same = ap elements c.children-own.ensures.own ∙ c.is_alike.ensures.children c.if-not-is_alike.false ∙ ap elements (sym c.children-others.ensures.own) in
    let long = same-length cs ds same in
    let lt : i < length ds = omega arith in
    let one = c.is_same.ensures c.if-not-is_same.false in
    each-more AreSame cs ds i c.index-own-i.result (get_or ds i c.index-others-i.result) c.loop-i-test.true lt c.index-own-i.is
    (ap (get_or ds i) c.index-others-i.is) one c.loop-i.invariant

pub is_same_below-returns : goal.is_same_below-returns
is_same_below-returns t c =
    let n = c.args.self.now in
    let m = c.args.other.now in
    let i = c.loop-i.i in
    let cs = c.children-own.result.now in
    let ds = c.children-others.result.now in
    let alike = c.is_alike.ensures.children c.if-not-is_alike.false in
    let same = ap elements c.children-own.ensures.own ∙ alike ∙ ap elements (sym c.children-others.ensures.own) in
    let long = same-length cs ds same in
    let whole = take_all i cs c.loop-i-test.false ∙ c.children-own.ensures.own in
    let others = take_all i ds (omega arith) ∙ c.children-others.ensures.own in
    let each = subst₂ (λ xs ys. Each AreSame xs ys) whole others c.loop-i.invariant in
    λ _. same-level n m c.requires.own c.requires.other (c.is_alike.ensures.own c.if-not-is_alike.false) alike each
