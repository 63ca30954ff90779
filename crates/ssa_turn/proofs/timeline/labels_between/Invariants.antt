use Rattle.std.proofs.Common.{◌≡◌, ◌≤◌, ◌-◌, ◌++◌, map, take, drop}
use Rattle.ssa_reverse.specs.Journals.{past_of, future_of}
use Rattle.ssa_turn.specs.Histories.{label_view, lent_labels}
use Rattle.ssa_turn.proofs.timeline.labels_between.Given as goal

-- the labels so far
abbrev pub invariant-loop-place : goal.invariant-loop-place
invariant-loop-place l = record {
  found : lent_labels l.found.items ≡ map (λ r. label_view r.1) (take (l.place - l.from) (drop l.from (past_of l.journal ++ future_of l.journal)));
  order : l.from ≤ l.place;
}
