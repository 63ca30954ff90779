-- The walk beside the tries held tells only of the points below the node that they are held.
use Rattle.std.proofs.Common.{◌<◌, ◌∙◌, sym, subst, length, take, arith}
use Rattle.std.proofs.lemmas.List.{drop_all, take_all}
use Rattle.ssa_path.specs.View.{element_view}
use Rattle.ssa_typed.specs.Ordered.{lent_children}
use Rattle.ssa_typed.specs.Points.{IsCollected}
use Rattle.ssa_typed.specs.Rows.{below, rows}
use Rattle.ssa_typed.specs.declared.points.Collected.TheVariants.{Points}
use Rattle.ssa_typed.proofs.Collecting.{collecting-all}
use Rattle.ssa_typed.proofs.KnownPoints.{child-held, held-more}
use Rattle.ssa_typed.proofs.Lookups.{tree-child}
use Rattle.ssa_typed.proofs.References.{child-read}
use Rattle.ssa_typed.proofs.Sizes.{smaller}
use Rattle.ssa_typed.proofs.known_points.+points.Goals as goal

pub are_points_below-are_points_held-requires : goal.are_points_below-are_points_held-requires
are_points_below-are_points_held-requires t c =
    let n = c.args.node.now in
    let r = c.at-child.result.now in
    let child = child-read (below n) (lent_children c.in_ok-children.field-0) c.loop-i.i r c.at-child.ensures.read c.in_ok-children.ensures in
    let small : length (rows r.1) < length (rows n) = smaller n (element_view r.0) r.1 child in
    (omega (arith, small), tree-child n (element_view r.0) r.1 c.requires child)

pub are_points_below-has_paths-requires : goal.are_points_below-has_paths-requires
are_points_below-has_paths-requires t c =
    let n = c.args.node.now in
    let r = c.at-child.result.now in
    let child = child-read (below n) (lent_children c.in_ok-children.field-0) c.loop-i.i r c.at-child.ensures.read c.in_ok-children.ensures in
    let tree = tree-child n (element_view r.0) r.1 c.requires child in
    (child-held c.is_dict-in_dict.result (element_view r.0) r.1 c.index-held-i.result.1 c.has_place-here.result c.deref.result.now tree
    c.if-trie-here.false c.has_place-here.ensures c.deref.ensures.value (c.in_ok-are_points_held.ensures c.if-not-branch.false)).trie

pub are_points_below-loop-i-preserved : goal.are_points_below-loop-i-preserved
are_points_below-loop-i-preserved t c =
    let n = c.args.node.now in
    let cs = lent_children c.in_ok-children.field-0 in
    let r = c.at-child.result.now in
    let child = child-read (below n) cs c.loop-i.i r c.at-child.ensures.read c.in_ok-children.ensures in
    let tree = tree-child n (element_view r.0) r.1 c.requires child in
    let made = child-held c.is_dict-in_dict.result (element_view r.0) r.1 c.index-held-i.result.1 c.has_place-here.result c.deref.result.now tree
    c.if-trie-here.false c.has_place-here.ensures c.deref.ensures.value (c.in_ok-are_points_held.ensures c.if-not-branch.false) in
    held-more c.is_dict-in_dict.result cs c.args.held.now c.loop-i.i r c.index-held-i.result c.loop-i-test.true c.at-child.ensures.read c.index-held-i.is
    (sym c.is_same.ensures ∙ c.if-not-is_same.false) made (sym c.has_paths.ensures ∙ c.if-not-has_paths.false) c.loop-i.invariant

pub are_points_below-returns : goal.are_points_below-returns
are_points_below-returns t c =
    let n = c.args.node.now in
    let cs = lent_children c.in_ok-children.field-0 in
    let none = drop_all c.loop-i.i cs (omega arith) in
    let all = collecting-all Points c.is_dict-in_dict.result n cs _ (take c.loop-i.i c.args.held.now) c.is_dict-in_dict.ensures c.in_ok-children.ensures none
    c.loop-i.invariant in
    λ _. subst (IsCollected Points n) (take_all c.loop-i.i c.args.held.now c.loop-i-test.false) all
