use Rattle.std.proofs.Common.{arith, subst, take_all}
use Rattle.ssa_merge.proofs.EntriesBack.{AreRead, read-more}
use Rattle.ssa_merge.proofs.entries_back.entries_are_read.Goals as goal

pub loop-entry-preserved : goal.loop-entry-preserved
loop-entry-preserved c =
    read-more c.args.entries.now c.loop-entry.entry-index c.entry-item.result c.loop-entry-test.true c.entry-item.is c.loop-entry.invariant
    c.own_set_is_read.ensures

pub returns : goal.returns
returns c = subst AreRead (take_all c.loop-entry.entry-index c.args.entries.now (omega arith)) c.loop-entry.invariant
