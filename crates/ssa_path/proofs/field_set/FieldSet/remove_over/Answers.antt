use Rattle.std.proofs.Common.{◌∙◌}
use Rattle.ssa_path.specs.Meet.{without_over}
use Rattle.ssa_path.specs.declared.combine.Combination.TheVariants.{WithoutOver}
use Rattle.ssa_path.proofs.Sets.{listed-combined}
use Rattle.ssa_path.proofs.field_set.FieldSet.remove_over.Goals as goal

pub returns : goal.returns
returns c = listed-combined WithoutOver c.self.inside.root c.other.inside.root c.take_out_over.new.own c.take_out_over.ensures
    ∙ (λ i. without_over (c.self.view_is i) (c.other.view_is i))
