-- The turned record is the record of the way back: the laws of what is changed in place and back.
use Rattle.std.specs.Prelude.{◌≡◌, true}
use Rattle.ssa_model.specs.definitions.Kind.{Kind}
use Rattle.ssa_model.specs.definitions.Body.{Body}
use Rattle.ssa_model.specs.definitions.Table.{Table}
use Rattle.ssa_model.specs.definitions.Operations.{State}
use Rattle.ssa_model.specs.definitions.Valid.{IsValidState, has_distinct_keys, KeepsOrder}
use Rattle.ssa_model.specs.definitions.Record.{BodyRecord, TableRecord, Record, body_record, table_record, record_of}
use Rattle.ssa_model.specs.definitions.Carry.{carry_body, carry_table, carry}
use Rattle.ssa_model.specs.definitions.Takes.{BodyTakes, TableTakes, Takes, turned_body, turned_table, turned}

-- ---- the turned record is that of the two, the other way round

-- of any two bodies
abbrev pub BodyTurns : Type 0
BodyTurns = (v w : Body) → body_record w v ≡ turned_body (body_record v w) v

abbrev pub TableTurns : Type 0
TableTurns =
    (t u : Table) → has_distinct_keys t ≡ true → has_distinct_keys u ≡ true → KeepsOrder t u
    → table_record u t ≡ turned_table (table_record t u) t

abbrev pub RecordTurns : Type 0
RecordTurns =
    (v w : State) → has_distinct_keys v.table ≡ true → has_distinct_keys w.table ≡ true → KeepsOrder v.table w.table
    → record_of w v ≡ turned (record_of v w) v

-- ---- where a record takes one state to another

-- the record and the first state fix the second
abbrev pub FixesTarget : Type 0
FixesTarget = (kind : Kind) (d : Record) (v w : State) → Takes kind d v w → carry d v ≡ w

-- the two states fix the record
abbrev pub FixesRecord : Type 0
FixesRecord = (kind : Kind) (d e : Record) (v w : State) → Takes kind d v w → Takes kind e v w → d ≡ e

-- the turned record takes the second state to the first
abbrev pub LeadsBack : Type 0
LeadsBack = (kind : Kind) (d : Record) (v w : State) → Takes kind d v w → Takes kind (turned d v) w v

-- turned twice it is the record again
abbrev pub TurnsTwice : Type 0
TurnsTwice = (kind : Kind) (d : Record) (v w : State) → Takes kind d v w → turned (turned d v) w ≡ d

-- ---- the same of the parts

abbrev pub BodyLaws : Type 0
BodyLaws =
    (kind : Kind) (d : BodyRecord) (v w : Body) → BodyTakes kind d v w
    → (carry_body d v ≡ w) × ((e : BodyRecord) → BodyTakes kind e v w → d ≡ e) × BodyTakes kind (turned_body d v) w v

abbrev pub TableLaws : Type 0
TableLaws =
    (d : TableRecord) (t u : Table) → TableTakes d t u
    → (carry_table d t ≡ u) × ((e : TableRecord) → TableTakes e t u → d ≡ e) × TableTakes (turned_table d t) u t

-- a record takes valid states one to the other where its parts do so with their parts
abbrev pub TakesByParts : Type 0
TakesByParts =
    (kind : Kind) (d : Record) (v w : State) → IsValidState kind v → IsValidState kind w
    → BodyTakes kind d.body v.body w.body → TableTakes d.table v.table w.table → Takes kind d v w
