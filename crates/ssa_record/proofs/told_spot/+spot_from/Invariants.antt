use Rattle.std.proofs.Common.{length}
use Rattle.ssa_typed.specs.Rows.{rows}
use Rattle.ssa_record.proofs.told_spot.+spot_from.Given as goal

abbrev pub decreases-spot_from : goal.decreases-spot_from
decreases-spot_from l = length (rows l.spot.node.now)
