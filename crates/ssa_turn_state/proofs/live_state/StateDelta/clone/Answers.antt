use Rattle.ssa_turn_state.proofs.live_state.StateDelta.clone.Goals as goal

pub returns-clause-room : goal.returns-clause-room
returns-clause-room c v h = record { body = c.in_ok-body.ensures.room v.body h.body; table = c.in_ok-table.ensures.room v.table h.table }
