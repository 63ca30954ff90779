use Rattle.std.proofs.Common.{◌+◌}
use Rattle.ssa_merge.specs.States.{state_view}
use Rattle.ssa_model.specs.definitions.History.{past_len}
use Rattle.ssa_reverse.specs.Journals.{timeline_of}
use Rattle.ssa_turn.proofs.InARow.{still-back, redone-row, whole-back}
use Rattle.ssa_turn.proofs.timeline.Timeline.redo.Goals as goal

pub returns : goal.returns
returns c =
    let before = timeline_of c.self.inside.journal (state_view c.self.inside.live.state) in
    let after = timeline_of c.redo.new.self (state_view c.redo.new.value.state) in
    redone-row before after c.args.self.now c.self.view_is c.requires c.in-Ok.ensures.ok

pub invariant_of-self : goal.invariant_of-self
invariant_of-self c =
    let before = timeline_of c.self.inside.journal (state_view c.self.inside.live.state) in
    let after = timeline_of c.redo.new.self (state_view c.redo.new.value.state) in
    let moved = redone-row before after c.args.self.now c.self.view_is c.requires c.in-Ok.ensures.ok in
    let back = still-back before after c.args.self.now (past_len c.args.self.now + 1) c.self.view_is moved (whole-back c.self.inside c.self.invariant) in
    record { goes = c.redo.ensures.whole; back = back.back; dated = back.dated; read = back.read }
