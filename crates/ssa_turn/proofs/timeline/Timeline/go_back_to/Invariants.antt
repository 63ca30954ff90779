use Rattle.std.proofs.Common.{◌≡◌, ◌≤◌}
use Rattle.ssa_model.specs.definitions.History.{moved_to}
use Rattle.ssa_turn.proofs.timeline.Timeline.go_back_to.Given as goal

-- the place moved back, and not beyond the one that is asked for
abbrev pub invariant-loop-self : goal.invariant-loop-self
invariant-loop-self l = record {
  moved : l.self ≡ moved_to l.fn.self l.self.place;
  behind : l.place ≤ l.self.place;
}

abbrev pub decreases-loop-self : goal.decreases-loop-self
decreases-loop-self l = l.self.place
