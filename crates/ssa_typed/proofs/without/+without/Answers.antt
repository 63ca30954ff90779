use Rattle.std.proofs.Common.{◌∙◌, sym, ap, subst, arith, rules}
use Rattle.std.proofs.lemmas.List.{nil_from_length}
use Rattle.std.specs.Vec.Iter.{into_iter_items}
use Rattle.ssa_path.specs.Trie.{paths_below}
use Rattle.ssa_path.specs.View.{element_view}
use Rattle.ssa_path.proofs.Levels.{trie-parts}
use Rattle.ssa_typed.specs.Rows.{below}
use Rattle.ssa_typed.specs.Without.{GoWhole}
use Rattle.ssa_typed.proofs.Leaving.{children-apart, children-less, child-smaller, child-tree, leaving-all}
use Rattle.ssa_typed.proofs.OverNodes.{below-Branch, below-Dict, below-List}
use Rattle.ssa_typed.proofs.Parting.{below-whole, child-whole, dict-without, gone-without, left-without, list-without, parting-gone, parting-part, parting-whole, record-without}
use Rattle.ssa_typed.proofs.Restricting.{children-trees, trie-there}
use Rattle.ssa_typed.proofs.without.+without.Goals as goal

pub node_without-children_without-requires : goal.node_without-children_without-requires
node_without-children_without-requires t c =
    let cs = c.in-Branch.children.items in
    let is = ap below c.in-Branch.is ∙ below-Branch c.in-Branch.children in
    let small = children-less c.args.node cs is in (
      search (rules, small),
      (
        children-trees c.args.node cs is c.requires.tree,
        (
          children-apart c.args.node cs is c.requires.tree,
          (c.requires.rise, (c.requires.tries, subst (λ l. GoWhole l (paths_below c.args.gone.now)) is c.requires.whole)),
        ),
      ),
    )

pub node_without-children_without-requires-in-Dict : goal.node_without-children_without-requires-in-Dict
node_without-children_without-requires-in-Dict t c =
    let cs = c.in-Dict.children.items in
    let is = ap below c.in-Dict.is ∙ below-Dict c.in-Dict.children in
    let small = children-less c.args.node cs is in (
      search (rules, small),
      (
        children-trees c.args.node cs is c.requires.tree,
        (
          children-apart c.args.node cs is c.requires.tree,
          (c.requires.rise, (c.requires.tries, subst (λ l. GoWhole l (paths_below c.args.gone.now)) is c.requires.whole)),
        ),
      ),
    )

pub node_without-children_without-requires-in-List : goal.node_without-children_without-requires-in-List
node_without-children_without-requires-in-List t c =
    let cs = c.in-List.children.items in
    let is = ap below c.in-List.is ∙ below-List c.in-List.children in
    let small = children-less c.args.node cs is in (
      search (rules, small),
      (
        children-trees c.args.node cs is c.requires.tree,
        (
          children-apart c.args.node cs is c.requires.tree,
          (c.requires.rise, (c.requires.tries, subst (λ l. GoWhole l (paths_below c.args.gone.now)) is c.requires.whole)),
        ),
      ),
    )

pub node_without-returns-in_ok-kept-in-Branch : goal.node_without-returns-in_ok-kept-in-Branch
node_without-returns-in_ok-kept-in-Branch t c =
    record-without (paths_below c.args.gone.now) c.args.node c.in-Branch.children c.in_ok-kept-in-Branch.kept c.requires.tree c.in-Branch.is
    c.in_ok-kept-in-Branch.ensures

pub node_without-returns-in_ok-kept-in-Dict : goal.node_without-returns-in_ok-kept-in-Dict
node_without-returns-in_ok-kept-in-Dict t c =
    dict-without (paths_below c.args.gone.now) c.args.node c.in-Dict.children c.in_ok-kept-in-Dict.kept c.requires.tree c.in-Dict.is
    c.in_ok-kept-in-Dict.ensures

pub node_without-returns-in_ok-kept-in-List : goal.node_without-returns-in_ok-kept-in-List
node_without-returns-in_ok-kept-in-List t c =
    list-without (paths_below c.args.gone.now) c.args.node c.in-List.children c.in_ok-kept-in-List.kept c.requires.tree c.in-List.is
    c.in_ok-kept-in-List.ensures

pub children_without-child_without-requires : goal.children_without-child_without-requires
children_without-child_without-requires t c =
    let gs = c.args.gone.now in
    let cs = c.args.children.items in
    let child = c.in-Some.child in
    let left = into_iter_items c.next.new.self in
    let made = c.loop-child.kept.items in
    let below = c.in-Some-find_child.below.now in
    let goes_at = sym c.in-Some-find_child.ensures in
    let tree = child-tree cs child _ left made c.in-Some.ensures.steps.0 c.loop-child.invariant in
    let small = child-smaller cs child _ left made c.in-Some.ensures.steps.0 c.loop-child.invariant in
    let trie = trie-there gs c.requires.rise c.requires.tries (element_view child.0) below goes_at in
    let whole = child-whole gs c.requires.rise cs child _ left made c.in-Some.ensures.steps.0 c.loop-child.invariant below goes_at c.requires.whole in
    (search (rules, small), (tree, (trie, whole)))

pub children_without-loop-child-preserved-in-Continue-branch-3 : goal.children_without-loop-child-preserved-in-Continue-branch-3
children_without-loop-child-preserved-in-Continue-branch-3 t c =
    parting-part c.args.gone.now c.requires.rise c.args.children.items c.in-Some.child _ (into_iter_items c.next.new.self) c.loop-child.kept.items
    c.in-Some.ensures.steps.0 c.loop-child.invariant c.in-Some-find_child.below.now c.in_ok-part-in-Some-find_child.part
    (sym c.in-Some-find_child.ensures) c.in_ok-part-in-Some-find_child.ensures c.in-Some-part.part c.push.new.self.items c.in-Some-part.is
    c.in_ok-push-in-Some-part.ensures.items

pub children_without-loop-child-preserved-in-None-part : goal.children_without-loop-child-preserved-in-None-part
children_without-loop-child-preserved-in-None-part t c =
    parting-gone c.args.gone.now c.requires.rise c.args.children.items c.in-Some.child _ (into_iter_items c.next.new.self) c.loop-child.kept.items
    c.in-Some.ensures.steps.0 c.loop-child.invariant c.in-Some-find_child.below.now c.in_ok-part-in-Some-find_child.part
    (sym c.in-Some-find_child.ensures) c.in_ok-part-in-Some-find_child.ensures c.in-None-part.is

pub children_without-loop-child-preserved : goal.children_without-loop-child-preserved
children_without-loop-child-preserved t c =
    parting-whole c.args.gone.now c.requires.rise c.args.children.items c.in-Some.child _ (into_iter_items c.next.new.self) c.loop-child.kept.items
    c.in-Some.ensures.steps.0 c.loop-child.invariant (sym c.in-None-find_child.ensures) c.push-in-None-find_child.new.self.items
    c.in_ok-push-in-None-find_child.ensures.items

pub children_without-returns : goal.children_without-returns
children_without-returns t c =
    let l = c.loop-child in
    let none = nil_from_length (into_iter_items l.child-iterator) (omega (arith, c.in-None.ensures.steps.0, l.child-iterator.rest.ok)) in
    leaving-all c.args.children.items (into_iter_items l.child-iterator) l.kept.items none l.invariant

pub child_without-returns-then-gone : goal.child_without-returns-then-gone
child_without-returns-then-gone t c = gone-without c.args.node c.args.gone.now c.if-gone.true c.requires.whole

pub child_without-node_without-requires : goal.child_without-node_without-requires
child_without-node_without-requires t c =
    let gone = trie-parts c.args.gone.now c.deref.result.now c.deref.ensures.value c.requires.trie in
    let whole = below-whole c.args.node c.args.gone.now c.requires.tree c.requires.whole in
    (search rules, (c.requires.tree, (gone.0, (gone.1, subst (λ gs. GoWhole (below c.args.node) (paths_below gs)) (sym c.deref.ensures.value) whole))))

pub child_without-returns : goal.child_without-returns
child_without-returns t c =
    left-without c.args.node c.args.gone.now c.in_ok-left.left c.requires.tree c.if-gone.false (rw c.deref.ensures.value at c.in_ok-left.ensures)
