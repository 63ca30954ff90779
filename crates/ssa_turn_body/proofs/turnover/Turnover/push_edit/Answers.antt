use Rattle.std.proofs.Common.{sym, subst, ◌∙◌}
use Rattle.ssa_path.specs.Listing.{way_view}
use Rattle.ssa_turn_body.specs.Turnovers.{passing, IsEditOf, MayTurnOver}
use Rattle.ssa_turn_body.proofs.turnover.Turnover.push_edit.Goals as goal

pub returns : goal.returns
returns c =
    let t = passing c.args.self in
    let boxed = c.in_ok-boxed.boxed in
    subst (λ b. MayTurnOver b (way_view c.args.way.now) t c.args.count c.args.steps.now.items c.push_step.new.steps.items)
    (sym c.if-is_still.false ∙ c.is_still.ensures)
    (boxed, subst (IsEditOf t c.args.count) (sym c.in_ok-boxed.ensures.ok) c.in_ok-edit.ensures, c.in_ok-push_step.ensures)
