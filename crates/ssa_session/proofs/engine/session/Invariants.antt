use Rattle.std.proofs.Common.{◌≡◌, ◌≤◌, true}
use Rattle.ssa_session.proofs.SessionFacts.{SoFar}
use Rattle.ssa_session.proofs.engine.session.Given as goal

abbrev pub invariant-loop-end : goal.invariant-loop-end
invariant-loop-end g l = record {
  answered : SoFar g.M.Machine.reply g.M.Machine.after (g.R.Source.remaining l.initial.reader) (g.R.Source.remaining l.reader)
      (g.W.Sink.contents l.initial.writer) (g.W.Sink.contents l.writer) l.initial.machine l.machine;
  handed_on : g.W.Sink.is_handed_on l.initial.writer ≡ true → g.W.Sink.is_handed_on l.writer ≡ true;
  ends : g.R.Source.ends_met l.initial.reader ≤ g.R.Source.ends_met l.reader;
  watched : g.T.Watcher.goes l.initial.watcher l.watcher;
}

abbrev pub decreases-loop-end : goal.decreases-loop-end
decreases-loop-end g l = g.R.Source.turns_left l.reader
