use Rattle.std.proofs.Common.{ap, sym, ◌∙◌}
use Rattle.ssa_path.specs.Children.{elements}
use Rattle.ssa_path.proofs.Orders.{both_first}
use Rattle.ssa_typed.specs.Rows.{is_tree, are_fields, are_trees}
use Rattle.ssa_typed.proofs.Levels.{tree-Branch, tree-Dict}
use Rattle.ssa_turn_body.proofs.side_by_side.places_of.Goals as goal

pub places_beside-requires-clause-own : goal.places_beside-requires-clause-own
places_beside-requires-clause-own c =
    let v = c.in-Branch.children in
    let stand = both_first _ (are_trees v.items) (sym (ap is_tree c.in-Branch.is ∙ tree-Branch v) ∙ c.requires.own) in
    rw c.deref.ensures.value (both_first _ (are_fields (elements v.items)) stand)

pub places_beside-requires-in-Dict-clause-own : goal.places_beside-requires-in-Dict-clause-own
places_beside-requires-in-Dict-clause-own c =
    let v = c.in-Dict.children in
    let stand = both_first _ (are_trees v.items) (sym (ap is_tree c.in-Dict.is ∙ tree-Dict v) ∙ c.requires.own) in
    rw c.deref-in-Dict.ensures.value (both_first _ (are_fields (elements v.items)) stand)
