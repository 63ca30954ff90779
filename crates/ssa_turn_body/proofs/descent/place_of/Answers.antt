use Rattle.std.proofs.Common.{ap, sym, ◌∙◌}
use Rattle.ssa_path.specs.Children.{elements}
use Rattle.ssa_path.proofs.Orders.{both_first}
use Rattle.ssa_typed.specs.Rows.{is_tree, are_fields, are_trees}
use Rattle.ssa_typed.proofs.Levels.{tree-Branch, tree-Dict}
use Rattle.ssa_turn_body.proofs.descent.place_of.Goals as goal

pub find-requires : goal.find-requires
find-requires c =
    let v = c.in-Branch.children in
    let stand = both_first _ (are_trees v.items) (sym (ap is_tree c.in-Branch.is ∙ tree-Branch v) ∙ c.requires) in
    rw c.deref.ensures.value (both_first _ (are_fields (elements v.items)) stand)

pub find-requires-in-Dict : goal.find-requires-in-Dict
find-requires-in-Dict c =
    let v = c.in-Dict.children in
    let stand = both_first _ (are_trees v.items) (sym (ap is_tree c.in-Dict.is ∙ tree-Dict v) ∙ c.requires) in
    rw c.deref-in-Dict.ensures.value (both_first _ (are_fields (elements v.items)) stand)
