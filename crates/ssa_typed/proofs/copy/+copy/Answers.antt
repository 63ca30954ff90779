use Rattle.std.proofs.Common.{ap, sym, ◌∙◌}
use Rattle.std.proofs.lemmas.List.{take_all}
use Rattle.ssa_path.specs.View.{element_view}
use Rattle.ssa_typed.specs.Copies.{kept, kept_below}
use Rattle.ssa_typed.proofs.Copying.{kept-Branch, kept-Dict, kept-List}
use Rattle.ssa_typed.proofs.copy.+copy.Goals as goal

pub copied_children-returns : goal.copied_children-returns
copied_children-returns t c =
    c.loop-child.invariant ∙ ap kept_below (take_all c.loop-child.child-index c.deref-child-items.result.now c.loop-child-test.false
    ∙ c.deref-child-items.ensures.value)

pub copied-returns-in_ok-copied_children-in-Branch : goal.copied-returns-in_ok-copied_children-in-Branch
copied-returns-in_ok-copied_children-in-Branch t c =
    kept-Branch c.in_ok-copied_children-in-Branch.field-0 c.in-Branch.children c.args.node.now c.in_ok-copied_children-in-Branch.ensures c.in-Branch.is

pub copied-returns-in_ok-copied_children-in-Dict : goal.copied-returns-in_ok-copied_children-in-Dict
copied-returns-in_ok-copied_children-in-Dict t c =
    kept-Dict c.in_ok-copied_children-in-Dict.field-0 c.in-Dict.children c.args.node.now c.in_ok-copied_children-in-Dict.ensures c.in-Dict.is

pub copied-returns-in_ok-copied_children-in-List : goal.copied-returns-in_ok-copied_children-in-List
copied-returns-in_ok-copied_children-in-List t c =
    kept-List c.in_ok-copied_children-in-List.field-0 c.in-List.children c.args.node.now c.in_ok-copied_children-in-List.ensures c.in-List.is

pub push_copy-returns-in_ok-push_under-in-Field : goal.push_copy-returns-in_ok-push_under-in-Field
push_copy-returns-in_ok-push_under-in-Field t c =
    let x = c.in_ok-push_under-in-Field.ensures in
    (x.0, x.1 ∙ sym (ap element_view c.in-Field.is), x.2, x.3)

pub push_under-returns-in_ok-push_scalar-in-Some : goal.push_under-returns-in_ok-push_scalar-in-Some
push_under-returns-in_ok-push_scalar-in-Some t c =
    let x = c.in_ok-push_scalar-in-Some.ensures in
    (x.0, x.1, x.2 ∙ sym (ap kept c.in-Some.ensures), x.3)
