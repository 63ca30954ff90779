use Rattle.std.proofs.Common.{◌∙◌}
use Rattle.ssa_path.specs.Meet.{combined}
use Rattle.ssa_path.proofs.Sets.{listed-combined}
use Rattle.ssa_path.proofs.field_set.FieldSet.combined.Goals as goal

pub returns : goal.returns
returns c = listed-combined c.args.how c.self.inside.root c.other.inside.root c.in_ok-root.root c.in_ok-root.ensures
    ∙ (λ i. combined c.args.how (c.self.view_is i) (c.other.view_is i))
