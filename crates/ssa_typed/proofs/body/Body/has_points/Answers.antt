-- A set with the trie of the tree's points is the body's points.
use Rattle.std.proofs.Common.{sym, ap, ◌∙◌}
use Rattle.ssa_model.specs.definitions.Body.{points}
use Rattle.ssa_typed.proofs.Collecting.{points-listed}
use Rattle.ssa_typed.proofs.body.Body.has_points.Goals as goal

pub returns : goal.returns
returns c same = sym c.root.ensures.same ∙ points-listed c.self.inside.root c.root.result.now (c.in_ok-same.ensures same) ∙ ap points c.self.view_is
