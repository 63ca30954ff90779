use Rattle.std.proofs.Common.{◌∙◌}
use Rattle.ssa_typed.specs.Differences.{Added, Modified, Removed}
use Rattle.ssa_typed.specs.declared.compare.Scope.TheVariants.{Whole}
use Rattle.ssa_typed.proofs.Unchanged.{no-difference}
use Rattle.ssa_typed.proofs.compare.Comparison.of_same.Goals as goal

pub returns : goal.returns
returns c b = record {
  added_are = c.new.ensures ∙ no-difference Added b;
  modified_are = c.new-2.ensures ∙ no-difference Modified b;
  removed_are = c.new-3.ensures ∙ no-difference (Removed Whole) b;
}
