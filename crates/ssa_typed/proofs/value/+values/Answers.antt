use Rattle.std.proofs.Common.{ap, sym, ◌∙◌, arith, rules}
use Rattle.ssa_json.specs.View.{view}
use Rattle.ssa_json.proofs.Views.{view-List, view-Object}
use Rattle.ssa_model.specs.definitions.Json.{list, object}
use Rattle.ssa_path.specs.View.{element_view}
use Rattle.ssa_path.proofs.Orders.{both_first, both_second}
use Rattle.ssa_typed.specs.Rows.{is_tree}
use Rattle.ssa_typed.specs.Values.{value_of, with_member_under}
use Rattle.ssa_typed.specs.declared.node.Node.{the_lemmas}
use Rattle.ssa_typed.proofs.Levels.{tree-Branch, tree-Dict}
use Rattle.ssa_typed.proofs.Values.{items_after, items_view-push, items-more, members-more, tree-at, value-Branch, value-Dict, value-List}
use Rattle.ssa_typed.proofs.value.+values.Goals as goal

pub items_of-value_of-requires : goal.items_of-value_of-requires
items_of-value_of-requires t c = (
  search (rules, the_lemmas),
  tree-at c.args.children.now c.loop-child.child-index c.child-item.result (omega arith) c.child-item.is c.requires,
)

pub items_of-loop-child-preserved : goal.items_of-loop-child-preserved
items_of-loop-child-preserved t c =
    let v = c.in_ok-value_of.field-0 in
    ap Rattle.ssa_json.specs.View.items_view c.in_ok-push.ensures.items
    ∙ items_view-push c.loop-child.items.items v
    ∙ (λ i. items_after (c.loop-child.invariant i) (c.in_ok-value_of.ensures i))
    ∙ sym (items-more c.args.children.now c.loop-child.child-index c.child-item.result (omega arith) c.child-item.is)

pub members_of-value_of-requires : goal.members_of-value_of-requires
members_of-value_of-requires t c = (
  search (rules, the_lemmas),
  tree-at c.args.children.now c.loop-element.element-index c.loop-element-item.result (omega arith) c.loop-element-item.is c.requires.trees,
)

pub members_of-loop-element-preserved : goal.members_of-loop-element-preserved
members_of-loop-element-preserved t c =
    let e = c.loop-element-item.result in
    c.in_ok-put_under.ensures.put
    ∙ (λ i. with_member_under (element_view e.0) (c.in_ok-value.ensures i) (c.loop-element.invariant i))
    ∙ sym (members-more c.args.children.now c.loop-element.element-index e (omega arith) c.loop-element-item.is c.requires.rise)

pub value_of-members_of-requires : goal.value_of-members_of-requires
value_of-members_of-requires t c =
    let level = sym (ap is_tree c.in-Branch.is ∙ tree-Branch c.in-Branch.fields) ∙ c.requires in
    (search (rules, the_lemmas), (rw c.deref.ensures.value (both_first _ _ (both_first _ _ level)), rw c.deref.ensures.value (both_second _ _ level)))

pub value_of-members_of-requires-in-Dict : goal.value_of-members_of-requires-in-Dict
value_of-members_of-requires-in-Dict t c =
    let level = sym (ap is_tree c.in-Dict.is ∙ tree-Dict c.in-Dict.entries) ∙ c.requires in (
      search (rules, the_lemmas),
      (
        rw c.deref-in-Dict.ensures.value (both_first _ _ (both_first _ _ level)),
        rw c.deref-in-Dict.ensures.value (both_second _ _ level),
      ),
    )

pub value_of-returns-in_ok-members_of-in-Branch : goal.value_of-returns-in_ok-members_of-in-Branch
value_of-returns-in_ok-members_of-in-Branch t c =
    let made = rw c.deref.ensures.value at c.in_ok-members_of-in-Branch.ensures in
    view-Object c.in_ok-members_of-in-Branch.field-0 ∙ ap object made ∙ sym (ap value_of c.in-Branch.is ∙ value-Branch c.in-Branch.fields)

pub value_of-returns-in_ok-members_of-in-Dict : goal.value_of-returns-in_ok-members_of-in-Dict
value_of-returns-in_ok-members_of-in-Dict t c =
    let made = rw c.deref-in-Dict.ensures.value at c.in_ok-members_of-in-Dict.ensures in
    view-Object c.in_ok-members_of-in-Dict.field-0 ∙ ap object made ∙ sym (ap value_of c.in-Dict.is ∙ value-Dict c.in-Dict.entries)

pub value_of-returns-in_ok-items_of-in-List : goal.value_of-returns-in_ok-items_of-in-List
value_of-returns-in_ok-items_of-in-List t c =
    let made = rw c.deref-in-List.ensures.value at c.in_ok-items_of-in-List.ensures in
    view-List c.in_ok-items_of-in-List.field-0 ∙ ap list made ∙ sym (ap value_of c.in-List.is ∙ value-List c.in-List.items)
