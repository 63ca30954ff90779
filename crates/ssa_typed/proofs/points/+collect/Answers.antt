use Rattle.std.proofs.Common.{◌≡◌, ◌+◌, ◌*◌, ◌<◌, ◌∙◌, length, sym, subst, arith, rules}
use Rattle.std.proofs.lemmas.List.{drop_all, nil_from_length}
use Rattle.std.proofs.lemmas.Bool.Decides.{nat_tests}
use Rattle.ssa_path.specs.View.{element_view}
use Rattle.ssa_typed.specs.Ordered.{lent_children}
use Rattle.ssa_typed.specs.Points.{IsCollected}
use Rattle.ssa_typed.specs.Rows.{below, rows}
use Rattle.ssa_typed.proofs.Collecting.{child-trie, collecting-more, collecting-all, nothing-below}
use Rattle.ssa_typed.proofs.Lookups.{tree-child}
use Rattle.ssa_typed.proofs.References.{child-read}
use Rattle.ssa_typed.proofs.Sizes.{smaller}
use Rattle.ssa_typed.proofs.points.+collect.Goals as goal

pub collect_below-collect_under-requires : goal.collect_below-collect_under-requires
collect_below-collect_under-requires t c =
    let n = c.args.node.now in
    let r = c.at-child.result.now in
    let child = child-read (below n) (lent_children c.in_ok-children.field-0) c.loop-i.i r c.at-child.ensures.read c.in_ok-children.ensures in
    let small : length (rows r.1) < length (rows n) = smaller n (element_view r.0) r.1 child in
    let falls : 2 * length (rows r.1) + 1 < 2 * length (rows n) = omega arith in
    (search (rules, falls), tree-child n (element_view r.0) r.1 c.requires child)

pub collect_below-push_filled-requires : goal.collect_below-push_filled-requires
collect_below-push_filled-requires t c =
    let n = c.args.node.now in
    let r = c.at-child.result.now in
    let child = child-read (below n) (lent_children c.in_ok-children.field-0) c.loop-i.i r c.at-child.ensures.read c.in_ok-children.ensures in
    let tree = tree-child n (element_view r.0) r.1 c.requires child in
    (child-trie c.args.what c.is_dict-in_dict.result (element_view r.0) r.1 _ tree c.has_place-here.ensures c.in_ok-below.ensures).trie

pub collect_below-loop-i-preserved : goal.collect_below-loop-i-preserved
collect_below-loop-i-preserved t c =
    let n = c.args.node.now in
    let cs = lent_children c.in_ok-children.field-0 in
    let r = c.at-child.result.now in
    let child = child-read (below n) cs c.loop-i.i r c.at-child.ensures.read c.in_ok-children.ensures in
    let tree = tree-child n (element_view r.0) r.1 c.requires child in
    let made = child-trie c.args.what c.is_dict-in_dict.result (element_view r.0) r.1 _ tree c.has_place-here.ensures c.in_ok-below.ensures in
    collecting-more c.args.what c.is_dict-in_dict.result cs c.loop-i.i r c.loop-i.collected.items c.push_filled.new.children.items _ c.at-child.ensures.read made
    c.in_ok-push_filled.ensures.ok c.loop-i.invariant

pub collect_below-returns : goal.collect_below-returns
collect_below-returns t c =
    let n = c.args.node.now in
    let cs = lent_children c.in_ok-children.field-0 in
    let none = drop_all c.loop-i.i cs (omega arith) in
    collecting-all c.args.what c.is_dict-in_dict.result n cs _ c.loop-i.collected.items c.is_dict-in_dict.ensures c.in_ok-children.ensures none
    c.loop-i.invariant

pub collect_under-returns-then-is_empty : goal.collect_under-returns-then-is_empty
collect_under-returns-then-is_empty t c =
    let n = c.args.node.now in
    let test = sym c.is_empty.ensures ∙ c.if-is_empty.true in
    let bare : length c.children.result.now ≡ 0 = grind (arith, nat_tests) in
    let none = sym c.children.ensures.own ∙ nil_from_length c.children.result.now bare in
    subst (IsCollected c.args.what n) (sym c.new.ensures.items) (nothing-below c.args.what n none)
