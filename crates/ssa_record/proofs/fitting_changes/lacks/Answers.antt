use Rattle.ssa_record.proofs.FittingEntries.{lacks-decides, test-is}
use Rattle.ssa_record.proofs.fitting_changes.lacks.Goals as goal

pub returns : goal.returns
returns c = test-is _ _ c.is_empty.ensures (lacks-decides c.args.set.now c.args.other.now c.in_ok-both.both c.in_ok-both.ensures)
