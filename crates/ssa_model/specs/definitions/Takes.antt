-- Which states a record takes one to the other, and the record that a turn leaves: the one of the way back.
use Rattle.std.specs.Prelude.{◌≡◌, true, map, Option, Some, None, option_map}
use Rattle.ssa_model.specs.definitions.Json.{Text}
use Rattle.ssa_model.specs.definitions.PathMap.{get, paths, map_of, listed}
use Rattle.ssa_model.specs.definitions.Kind.{Kind}
use Rattle.ssa_model.specs.definitions.Body.{Body, order_at}
use Rattle.ssa_model.specs.definitions.Table.{Entry, Table, entry_of}
use Rattle.ssa_model.specs.definitions.Operations.{State}
use Rattle.ssa_model.specs.definitions.Fitting.{IsBodyOf}
use Rattle.ssa_model.specs.definitions.Valid.{IsValidState, has_distinct_keys, KeepsOrder}
use Rattle.ssa_model.specs.definitions.Record.{Change, BodyRecord, TableRecord, Record, part_at, placed, body_record, table_record, record_of}
use Rattle.ssa_model.specs.definitions.Carry.{is_key_among}

-- ---- what a record takes where

-- a record takes v to w where it is the record of the two
pub record BodyTakes (kind : Kind) (d : BodyRecord) (v w : Body) : Type 0 where
  pub from : IsBodyOf kind v
  pub to : IsBodyOf kind w
  pub is : d ≡ body_record v w

-- tables have such a record where their common managers stand in one order
pub record TableTakes (d : TableRecord) (t u : Table) : Type 0 where
  pub from : has_distinct_keys t ≡ true
  pub to : has_distinct_keys u ≡ true
  pub order : KeepsOrder t u
  pub is : d ≡ table_record t u

pub record Takes (kind : Kind) (d : Record) (v w : State) : Type 0 where
  pub from : IsValidState kind v
  pub to : IsValidState kind w
  pub order : KeepsOrder v.table w.table
  pub is : d ≡ record_of v w

-- ---- the way back, told by the record of the way there and the state that it leads from

-- what was cut is put again, what was put is cut, and leaves and orders are the body's again
abbrev pub turned_body : BodyRecord → Body → BodyRecord
turned_body d v = record {
  cut = listed (paths d.put);
  leaves = map_of (paths d.leaves) (get v);
  order = map_of (paths d.order) (λ p. Some (order_at (get v p)));
  put = map_of (paths d.cut) (λ p. Some (part_at v p));
}

abbrev pub moment_or : Text → Option Entry → Text
moment_or at None = at
moment_or at (Some e) = e.moment

-- what was gained is lost, what was lost is gained, and a moment that changed is the table's again
abbrev pub turned_change : Table → Change → Change
turned_change t c = record { manager = c.manager; gain = c.lose; lose = c.gain; moment = option_map (λ at. moment_or at (entry_of t c.manager)) c.moment }

-- who was here is gone, and who was gone is here at its place
abbrev pub turned_table : TableRecord → Table → TableRecord
turned_table d t = record {
  changed = map (turned_change t) d.changed;
  gone = map (λ e. e.1.manager) d.here;
  here = placed (λ e. is_key_among d.gone e.manager) 0 t;
}

abbrev pub turned : Record → State → Record
turned d v = record { body = turned_body d.body v.body; table = turned_table d.table v.table }
