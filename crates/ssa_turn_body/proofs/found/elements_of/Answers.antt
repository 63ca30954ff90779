use Rattle.std.proofs.Common.{[], ◌∷◌, ◌++◌, take, sym, ap, ◌∙◌}
use Rattle.std.proofs.lemmas.List.{map-append, take_more}
use Rattle.ssa_path.specs.Children.{elements}
use Rattle.ssa_path.specs.View.{element_view, path_view}
use Rattle.ssa_turn_body.proofs.found.elements_of.Goals as goal
use Rattle.ssa_typed.proofs.Building.{elements-push}

pub loop-child-preserved : goal.loop-child-preserved
loop-child-preserved c =
    let cs = c.args.children.now in
    let i = c.loop-child.child-index in
    let d = c.child-item.result in
    ap path_view c.in_ok-push.ensures.items ∙ map-append element_view c.loop-child.names.items (c.in_ok-element.element ∷ [])
    ∙ (λ t. c.loop-child.invariant t ++ c.in_ok-element.ensures t ∷ [])
    ∙ sym (elements-push (take i cs) d)
    ∙ ap elements (ap (λ x. take i cs ++ x ∷ []) c.child-item.is ∙ sym (take_more cs i d c.loop-child-test.true))
