-- What a record of two states is.
use Rattle.ssa_model.specs.definitions.Kind.{Kind}
use Rattle.ssa_model.specs.definitions.Operations.{State}
use Rattle.ssa_model.specs.definitions.Record.{Record}
use Rattle.ssa_model.specs.definitions.Takes.{Takes}
use Rattle.ssa_turn_body.specs.Records.{body_told}
use Rattle.ssa_turn_body.specs.Rooms.{HasBodyRoom}
use Rattle.ssa_turn_state.specs.declared.live_state.StateDelta.{StateDelta}
use Rattle.ssa_turn_table.specs.Turning.{HasTableRoom, table_steps}

-- what the record says, its room left out
abbrev pub state_steps : StateDelta → Record
state_steps d = record { body = body_told d.body; table = table_steps d.table }

-- the record is that of two valid states of one schema
abbrev pub IsTaken : Record → State → State → Type 0
IsTaken d v w = (kind : Kind) × Takes kind d v w

-- the record carries the room for each turn of the state
pub record HasStateRoom (d : StateDelta) (v : State) : Type 0 where
  pub body : HasBodyRoom d.body v.body
  pub table : HasTableRoom d.table v.table
