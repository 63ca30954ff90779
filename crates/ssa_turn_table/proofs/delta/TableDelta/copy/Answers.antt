use Rattle.ssa_turn_table.proofs.TableCopies.{has-table-room, same-steps}
use Rattle.ssa_turn_table.proofs.delta.TableDelta.copy.Goals as goal

pub returns-clause-steps : goal.returns-clause-steps
returns-clause-steps c =
    same-steps c.args.self.now (record { changed = c.in_ok-changed.changed; gone = c.in_ok-gone.gone; here = c.in_ok-here.here; room = c.in_ok-room.room })
    c.in_ok-changed.ensures c.in_ok-gone.ensures c.in_ok-here.ensures

pub returns-clause-room : goal.returns-clause-room
returns-clause-room c =
    has-table-room c.args.self.now (record { changed = c.in_ok-changed.changed; gone = c.in_ok-gone.gone; here = c.in_ok-here.here; room = c.in_ok-room.room })
    c.in_ok-changed.ensures c.in_ok-gone.ensures c.in_ok-here.ensures
    c.in_ok-room.ensures.gone_empty c.in_ok-room.ensures.gone_room c.in_ok-room.ensures.here_empty c.in_ok-room.ensures.here_room
