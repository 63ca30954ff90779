use Rattle.std.proofs.Common.{sym, ap, ◌∙◌}
use Rattle.ssa_model.proofs.Fitting.{same_element-true}
use Rattle.ssa_path.specs.View.{element_view}
use Rattle.ssa_turn_set.specs.Spare.{fits}
use Rattle.ssa_turn_set.proofs.spare.fill.Goals as goal

pub returns-clause-same : goal.returns-clause-same
returns-clause-same c =
    let e = element_view c.args.element.now in
    let kept = sym c.replace.ensures.value ∙ c.in-Kept.is in
    sym (same_element-true e (element_view c.in-Kept.kept) (sym (ap (fits e) kept) ∙ c.requires))
