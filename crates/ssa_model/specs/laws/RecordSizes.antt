-- A record holds no more than the facts in which its states differ.
use Rattle.std.specs.Prelude.{◌≡◌, ◌≤◌, true}
use Rattle.ssa_model.specs.definitions.Kind.{Kind}
use Rattle.ssa_model.specs.definitions.Body.{Body}
use Rattle.ssa_model.specs.definitions.Table.{Table}
use Rattle.ssa_model.specs.definitions.Operations.{State}
use Rattle.ssa_model.specs.definitions.Valid.{has_distinct_keys, KeepsOrder}
use Rattle.ssa_model.specs.definitions.Fitting.{IsBodyOf}
use Rattle.ssa_model.specs.definitions.Record.{body_record, table_record, record_of}
use Rattle.ssa_model.specs.definitions.Facts.{body_size, table_size, record_size, body_facts, table_facts, facts}

-- the second body may be any
abbrev pub BodyBound : Type 0
BodyBound = (kind : Kind) (v w : Body) → IsBodyOf kind v → body_size (body_record v w) ≤ body_facts v w

abbrev pub TableBound : Type 0
TableBound = (t u : Table) → table_size (table_record t u) ≤ table_facts t u

abbrev pub SizeBound : Type 0
SizeBound = (kind : Kind) (v w : State) → IsBodyOf kind v.body → record_size (record_of v w) ≤ facts v w

-- two states differ in as many facts one way as the other, so the bound holds both ways
abbrev pub FactsBothWays : Type 0
FactsBothWays =
    (v w : State) → has_distinct_keys v.table ≡ true → has_distinct_keys w.table ≡ true → KeepsOrder v.table w.table
    → facts v w ≡ facts w v
