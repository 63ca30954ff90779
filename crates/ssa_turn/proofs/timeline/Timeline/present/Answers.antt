use Rattle.std.proofs.Common.{ap, sym, ◌∙◌}
use Rattle.ssa_merge.specs.States.{state_view}
use Rattle.ssa_model.specs.definitions.History.{present}
use Rattle.ssa_reverse.specs.Journals.{timeline_of}
use Rattle.ssa_turn.proofs.InARow.{present-is}
use Rattle.ssa_turn.proofs.timeline.Timeline.present.Goals as goal

pub returns : goal.returns
returns c = sym (present-is (timeline_of c.self.inside.journal (state_view c.self.inside.live.state))) ∙ ap present c.self.view_is
