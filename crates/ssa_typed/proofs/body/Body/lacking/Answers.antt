use Rattle.std.proofs.Common.{not, ◌∙◌}
use Rattle.ssa_model.specs.definitions.PathMap.{has, paths, set_of}
use Rattle.ssa_typed.proofs.LackingPaths.{lacking-listed}
use Rattle.ssa_typed.proofs.body.Body.lacking.Goals as goal

pub returns : goal.returns
returns c =
    c.from_root.ensures
    ∙ lacking-listed c.self.inside.root c.root.result.now c.in_ok-root.root c.in_ok-root.ensures
    ∙ (λ i. set_of (paths (c.root.ensures.same i)) (λ p. not (has (c.self.view_is i) p)))
