use Rattle.std.proofs.Common.{ap, sym, ◌∙◌}
use Rattle.ssa_merge.specs.States.{state_view}
use Rattle.ssa_model.specs.definitions.History.{future_len}
use Rattle.ssa_reverse.specs.Journals.{timeline_of}
use Rattle.ssa_turn.proofs.InARow.{future-many}
use Rattle.ssa_turn.proofs.timeline.Timeline.future_len.Goals as goal

pub returns-clause-count : goal.returns-clause-count
returns-clause-count c =
    let v = state_view c.self.inside.live.state in
    c.future_len.ensures.steps v ∙ sym (future-many (timeline_of c.self.inside.journal v)) ∙ ap future_len c.self.view_is
