use Rattle.std.proofs.Common.{ap, ◌∙◌}
use Rattle.ssa_path.specs.Children.{elements, rises}
use Rattle.ssa_typed.specs.Rows.{below}
use Rattle.ssa_typed.proofs.OverNodes.{below-Branch, below-Dict, dict-rises, record-rises}
use Rattle.ssa_typed.proofs.compare.stand_in_order_alike.Goals as goal

pub returns-in-Branch-clause-rise : goal.returns-in-Branch-clause-rise
returns-in-Branch-clause-rise c =
    let v = c.in-Branch.own in
    λ _. ap (λ l. rises (elements l)) (ap below c.in-Branch.is ∙ below-Branch v) ∙ record-rises c.args.before.now v c.in-Branch.is c.requires

pub returns-in-Dict-clause-rise : goal.returns-in-Dict-clause-rise
returns-in-Dict-clause-rise c =
    let v = c.in-Dict.own in
    λ _. ap (λ l. rises (elements l)) (ap below c.in-Dict.is ∙ below-Dict v) ∙ dict-rises c.args.before.now v c.in-Dict.is c.requires
