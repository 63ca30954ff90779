use Rattle.std.proofs.Common.{length}
use Rattle.ssa_schema.proofs.fit.item_key.+are_same_rows.Given as goal

abbrev pub decreases-are_same_rows : goal.decreases-are_same_rows
decreases-are_same_rows l = length l.scalars.now
