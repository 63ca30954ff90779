use Rattle.std.proofs.Common.{sym, ap, subst, ◌∙◌}
use Rattle.ssa_path.specs.Subresources.{part_view}
use Rattle.ssa_typed.specs.InPart.{IsInPart}
use Rattle.ssa_typed.specs.Rows.{is_tree}
use Rattle.ssa_typed.specs.declared.node.Node.{Branch}
use Rattle.ssa_typed.proofs.InPart.{record-in-part}
use Rattle.ssa_typed.proofs.in_part.into_part.Goals as goal

pub returns : goal.returns
returns c =
    let s = part_view c.args.part in
    let own = c.keep_children.new.children in
    subst (λ n. IsInPart s n (Branch own)) (sym c.in-Branch.is)
    (record-in-part s c.in-Branch.children own (ap is_tree (sym c.in-Branch.is) ∙ c.requires.tree) c.keep_children.ensures)
