use Rattle.std.proofs.Common.{sym, ◌∙◌}
use Rattle.ssa_typed.proofs.SameTrees.{same-body}
use Rattle.ssa_typed.proofs.body.Body.is_same.Goals as goal

pub returns : goal.returns
returns c h = sym c.other.view_is ∙ same-body c.self.inside.root c.other.inside.root (c.is_same.ensures h) ∙ c.self.view_is
