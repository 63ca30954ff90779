use Rattle.std.proofs.Common.{◌∙◌}
use Rattle.ssa_model.specs.definitions.PathMap.{same_set}
use Rattle.ssa_path.proofs.Comparing.{same-listed}
use Rattle.ssa_path.proofs.field_set.FieldSet.is_same.Goals as goal

pub returns : goal.returns
returns c =
    c.same_tries.ensures ∙ same-listed c.self.inside.root c.other.inside.root c.self.invariant c.other.invariant
    ∙ (λ i. same_set (c.self.view_is i) (c.other.view_is i))
