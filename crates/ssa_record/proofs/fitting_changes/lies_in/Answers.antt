use Rattle.ssa_record.proofs.FittingEntries.{lies-decides, test-is}
use Rattle.ssa_record.proofs.fitting_changes.lies_in.Goals as goal

pub returns : goal.returns
returns c = test-is _ _ c.is_empty.ensures (lies-decides c.args.set.now c.args.other.now c.in_ok-more.more c.in_ok-more.ensures)
