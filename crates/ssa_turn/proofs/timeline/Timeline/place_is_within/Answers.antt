use Rattle.std.proofs.Common.{subst, ◌≤◌, length}
use Rattle.ssa_merge.specs.States.{state_view}
use Rattle.ssa_model.specs.definitions.History as model
use Rattle.ssa_reverse.specs.Journals.{timeline_of}
use Rattle.ssa_turn.proofs.InARow.{place-within}
use Rattle.ssa_turn.proofs.timeline.Timeline.place_is_within.Goals as goal

pub returns : goal.returns
returns c =
    let within : model.Timeline → Type 0 = λ t. t.place ≤ length t.later in
    subst within c.self.view_is (place-within (timeline_of c.self.inside.journal (state_view c.self.inside.live.state)))
