-- What the turn of a table needs and leaves.
use Rattle.std.specs.Prelude.{◌≡◌, ◌≤◌, [], length, vec_len, vec_capacity}
use Rattle.ssa_model.specs.definitions.Limits.{most_managers}
use Rattle.ssa_model.specs.definitions.Table.{Table}
use Rattle.ssa_model.specs.definitions.Record.{TableRecord}
use Rattle.ssa_model.specs.definitions.Carry.{carry_table}
use Rattle.ssa_model.specs.definitions.Takes.{TableTakes}
use Rattle.ssa_model.specs.definitions.Valid.{IsManagers}
use Rattle.ssa_turn_table.specs.declared.delta.TableDelta.{TableDelta}
use Rattle.ssa_turn_table.specs.Changing.{AllHaveRoom}
use Rattle.ssa_turn_table.specs.Going.{AllKeysAgree}
use Rattle.ssa_turn_table.specs.Tables.{changes_view, keys_view, heres_view}

-- what the record says, its room left out
abbrev pub table_steps : TableDelta → TableRecord
table_steps d = record { changed = changes_view d.changed.items; gone = keys_view d.gone.items; here = heres_view d.here.items }

-- the record takes one table to another, each of which is one by itself
pub record IsTableTaken (d : TableRecord) (t u : Table) : Type 0 where
  pub takes : TableTakes d t u
  pub from : IsManagers t
  pub to : IsManagers u

-- the record carries the room for a turn of the table, and there are places for all who are in the table then
pub record HasTableRoom (d : TableDelta) (t : Table) : Type 0 where
  pub few : length (carry_table (table_steps d) t) ≤ most_managers
  pub sets : AllHaveRoom t d.changed.items
  pub keys : AllKeysAgree d.here.items
  pub gone_empty : d.room.gone.items ≡ []
  pub gone_room : vec_len d.here ≤ vec_capacity d.room.gone
  pub here_empty : d.room.here.items ≡ []
  pub here_room : vec_len d.gone ≤ vec_capacity d.room.here
