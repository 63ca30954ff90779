use Rattle.std.proofs.Common.{ap, ◌∙◌}
use Rattle.ssa_path.specs.Children.{elements, rises}
use Rattle.ssa_typed.specs.Rows.{below}
use Rattle.ssa_typed.proofs.OverNodes.{below-Branch, below-Dict, dict-rises, record-rises}
use Rattle.ssa_typed.proofs.merged_order.Places.below.Goals as goal

pub returns-in-Branch : goal.returns-in-Branch
returns-in-Branch c =
    let v = c.in-Branch.field-0 in (
      c.children-children.ensures.own,
      ap (λ l. rises (elements l)) (ap below c.in-Branch.is ∙ below-Branch v) ∙ record-rises c.args.live.now v c.in-Branch.is c.requires,
    )

pub returns-in-Dict : goal.returns-in-Dict
returns-in-Dict c =
    let v = c.in-Dict.field-0 in (
      c.children-children.ensures.own,
      ap (λ l. rises (elements l)) (ap below c.in-Dict.is ∙ below-Dict v) ∙ dict-rises c.args.live.now v c.in-Dict.is c.requires,
    )
