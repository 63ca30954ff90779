use Rattle.std.proofs.Common.{◌∙◌}
use Rattle.std.specs.Prelude.{not}
use Rattle.ssa_model.specs.definitions.PathMap.{is_empty}
use Rattle.ssa_path.specs.Meet.{meet}
use Rattle.ssa_path.proofs.Meeting.{meet-some}
use Rattle.ssa_path.proofs.field_set.FieldSet.meets.Goals as goal

pub returns : goal.returns
returns c =
    meet-some c.self.inside.root c.other.inside.root _ c.share_path.ensures
    ∙ (λ i. not (is_empty (meet (c.self.view_is i) (c.other.view_is i))))
