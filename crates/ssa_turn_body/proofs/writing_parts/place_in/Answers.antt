use Rattle.std.proofs.Common.{◌∙◌}
use Rattle.ssa_path.specs.View.{element_view}
use Rattle.ssa_turn_body.proofs.ToldSteps.{placed-in}
use Rattle.ssa_turn_body.proofs.writing_parts.place_in.Goals as goal

pub returns-clause-value : goal.returns-clause-value
returns-clause-value c = c.find_in.ensures.value ∙ placed-in (element_view c.args.element.now) c.args.order.now
