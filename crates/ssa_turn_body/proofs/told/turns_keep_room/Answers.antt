use Rattle.ssa_turn_body.proofs.KeepingRoom.{turns-keep-room}
use Rattle.ssa_turn_body.proofs.told.turns_keep_room.Goals as goal

pub returns : goal.returns
returns c = turns-keep-room
