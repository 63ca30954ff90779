use Rattle.std.proofs.Common.{ap, ◌∙◌}
use Rattle.ssa_model.specs.definitions.Body.{points}
use Rattle.ssa_typed.proofs.Collecting.{points-listed}
use Rattle.ssa_typed.proofs.body.Body.points.Goals as goal

pub returns : goal.returns
returns c = c.from_root.ensures ∙ points-listed c.self.inside.root c.in_ok-root.root c.in_ok-root.ensures ∙ ap points c.self.view_is
