use Rattle.std.proofs.Common.{sym, ap, subst, subst₂, ◌∙◌}
use Rattle.ssa_path.specs.Children.{elements, rises}
use Rattle.ssa_path.specs.Subresources.{part_view}
use Rattle.ssa_typed.specs.InPart.{AreSpliced, IsSpliced}
use Rattle.ssa_typed.specs.Rows.{is_tree}
use Rattle.ssa_typed.specs.declared.node.Node.{Branch}
use Rattle.ssa_typed.proofs.InPart.{record-rises, record-spliced}
use Rattle.ssa_typed.proofs.in_part.splice.Goals as goal

pub spliced_children-requires-clause-object : goal.spliced_children-requires-clause-object
spliced_children-requires-clause-object c = record-rises c.in-Branch.own (ap is_tree (sym c.in-Branch.is) ∙ c.requires.object.tree)

pub spliced_children-requires-clause-live : goal.spliced_children-requires-clause-live
spliced_children-requires-clause-live c =
    ap (λ l. rises (elements l)) c.deref.ensures.value ∙ record-rises c.in-Branch-live.others (ap is_tree (sym c.in-Branch-live.is) ∙ c.requires.live.tree)

pub returns : goal.returns
returns c =
    let s = part_view c.args.part in
    let own = c.in-Branch.own in
    let others = c.in-Branch-live.others in
    let made = c.in_ok-children.children in
    let children = subst (λ l. AreSpliced s own.items l made.items) c.deref.ensures.value c.in_ok-children.ensures in
    let whole = record-spliced s own others made (ap is_tree (sym c.in-Branch.is) ∙ c.requires.object.tree) (ap is_tree (sym c.in-Branch-live.is) ∙ c.requires.live.tree)
    children in
    subst₂ (λ n m. IsSpliced s n m (Branch made)) (sym c.in-Branch.is) (sym c.in-Branch-live.is) whole
