use Rattle.std.proofs.Common.{arith, subst, take_all}
use Rattle.ssa_turn_state.proofs.OwnPaths.{AreDated, dated-more}
use Rattle.ssa_turn_state.proofs.own_paths.moments_are_read.Goals as goal

pub loop-entry-preserved : goal.loop-entry-preserved
loop-entry-preserved c =
    dated-more c.args.entries.now c.loop-entry.entry-index c.entry-item.result c.loop-entry-test.true c.entry-item.is c.loop-entry.invariant
    c.write-moment.ensures.moment

pub returns : goal.returns
returns c = subst AreDated (take_all c.loop-entry.entry-index c.args.entries.now (omega arith)) c.loop-entry.invariant
