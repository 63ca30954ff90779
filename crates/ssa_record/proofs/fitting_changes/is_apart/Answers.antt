use Rattle.ssa_record.proofs.FittingEntries.{apart-decides, test-is}
use Rattle.ssa_record.proofs.fitting_changes.is_apart.Goals as goal

pub returns : goal.returns
returns c = test-is _ _ c.is_same.ensures (apart-decides c.args.set.now c.args.cut.now c.in_ok-bare.bare c.in_ok-bare.ensures)
