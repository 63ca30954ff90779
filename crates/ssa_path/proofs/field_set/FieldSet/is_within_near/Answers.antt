use Rattle.std.proofs.Common.{◌∙◌}
use Rattle.ssa_model.specs.definitions.PathMap.{is_empty, minus}
use Rattle.ssa_path.proofs.LyingWithin.{within-empty}
use Rattle.ssa_path.proofs.field_set.FieldSet.is_within_near.Goals as goal

pub returns : goal.returns
returns c =
    within-empty c.self.inside.root c.other.inside.root _ c.lies_within_near.ensures
    ∙ (λ i. is_empty (minus (c.self.view_is i) (c.other.view_is i)))
