use Rattle.std.proofs.Common.{[], ◌≤◌}
use Rattle.ssa_lines.specs.Reading.{TakesLine}
use Rattle.ssa_lines.proofs.read_line.read_line.Given as goal

abbrev pub invariant-loop-end : goal.invariant-loop-end
invariant-loop-end g l = record {
  taken : TakesLine l.most (g.R.Source.remaining l.initial.reader) (g.R.Source.remaining l.reader) l.line [];
  turns : g.R.Source.turns_left l.reader ≤ g.R.Source.turns_left l.initial.reader;
  ends : g.R.Source.ends_met l.initial.reader ≤ g.R.Source.ends_met l.reader;
}

abbrev pub decreases-loop-end : goal.decreases-loop-end
decreases-loop-end g l = g.R.Source.turns_left l.reader
