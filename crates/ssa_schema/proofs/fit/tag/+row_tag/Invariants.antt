use Rattle.std.proofs.Common.{length}
use Rattle.ssa_schema.proofs.fit.tag.+row_tag.Given as goal

abbrev pub decreases-row_tag : goal.decreases-row_tag
decreases-row_tag l = length l.scalars.now
