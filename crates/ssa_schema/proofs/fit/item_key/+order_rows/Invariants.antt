use Rattle.std.proofs.Common.{length}
use Rattle.ssa_schema.proofs.fit.item_key.+order_rows.Given as goal

abbrev pub decreases-order_rows : goal.decreases-order_rows
decreases-order_rows l = length l.scalars.now
