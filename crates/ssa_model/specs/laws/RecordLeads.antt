-- The record of two states leads from the first to the second.
use Rattle.std.specs.Prelude.{◌≡◌, true}
use Rattle.ssa_model.specs.definitions.Path.{Path}
use Rattle.ssa_model.specs.definitions.PathMap.{PathSet, get, union, minus}
use Rattle.ssa_model.specs.definitions.Kind.{Kind}
use Rattle.ssa_model.specs.definitions.Body.{Body}
use Rattle.ssa_model.specs.definitions.Table.{Table}
use Rattle.ssa_model.specs.definitions.Operations.{State}
use Rattle.ssa_model.specs.definitions.Valid.{has_distinct_keys, KeepsOrder, IsValidState}
use Rattle.ssa_model.specs.definitions.Fitting.{IsBodyOf}
use Rattle.ssa_model.specs.definitions.Record.{BodyRecord, body_record, table_record, record_of}
use Rattle.ssa_model.specs.definitions.Carry.{carry_table, carried_at, carry_body, carry}

-- what is lost goes and what is gained comes: so one set becomes another
abbrev pub SetLeads : Type 0
SetLeads = (s t : PathSet) → union (minus s (minus s t)) (minus t s) ≡ t

-- the record of two tables whose common managers stand in one order leads from the first to the second
abbrev pub TableLeads : Type 0
TableLeads = (t u : Table) → has_distinct_keys t ≡ true → has_distinct_keys u ≡ true → KeepsOrder t u → carry_table (table_record t u) t ≡ u

-- what a record leads to from a body, path by path: whatever record and body
abbrev pub CarryAnswers : Type 0
CarryAnswers = (d : BodyRecord) (v : Body) (p : Path) → get (carry_body d v) p ≡ carried_at d v p

-- the record of two bodies of one kind leads from the first to the second
abbrev pub BodyLeads : Type 0
BodyLeads = (kind : Kind) (v w : Body) → IsBodyOf kind v → IsBodyOf kind w → carry_body (body_record v w) v ≡ w

-- the record of two valid states whose common managers stand in one order leads from the first to the second
abbrev pub RecordLeads : Type 0
RecordLeads = (kind : Kind) (v w : State) → IsValidState kind v → IsValidState kind w → KeepsOrder v.table w.table → carry (record_of v w) v ≡ w
