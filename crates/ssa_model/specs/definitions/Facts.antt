-- How much a record holds, and in how many facts two states differ.
use Rattle.std.specs.Prelude.{ℕ, ◌+◌, Bool, not, length, Option, Some, None, if◌then◌else◌}
use Rattle.std.specs.Option.{is_some}
use Rattle.std.specs.List.{sum_by}
use Rattle.ssa_model.specs.definitions.Json.{same_text}
use Rattle.ssa_model.specs.definitions.PathMap.{get, paths, size, minus}
use Rattle.ssa_model.specs.definitions.Body.{Content, Body, order_at, modified, removed}
use Rattle.ssa_model.specs.definitions.Table.{Entry, Table, is_in_table, entry_of}
use Rattle.ssa_model.specs.definitions.Operations.{State}
use Rattle.ssa_model.specs.definitions.Record.{Change, BodyRecord, TableRecord, Record, is_reordered}

abbrev pub one_if : Bool → ℕ
one_if b = if b then 1 else 0

-- ---- the size of a record

abbrev pub change_size : Change → ℕ
change_size c = size c.gain + (size c.lose + one_if (is_some c.moment))

-- each path put, with those below it; each path cut; each leaf; each item of a list in another order
abbrev pub body_size : BodyRecord → ℕ
body_size d = sum_by (λ e. size e.1.below) d.put.entries + size d.cut + size d.leaves + sum_by (λ e. length e.1) d.order.entries

-- 1 for each manager gone, 1 and the size of the set for each manager here, each path gained or lost, and 1 for each new moment
abbrev pub table_size : TableRecord → ℕ
table_size d = length d.gone + sum_by (λ e. 1 + size e.1.owned) d.here + sum_by change_size d.changed

abbrev pub record_size : Record → ℕ
record_size d = body_size d.body + table_size d.table

-- ---- the facts in which two states differ

-- the items of both lists, where the common ones stand in another order
abbrev pub reordered : Option Content → Option Content → ℕ
reordered a b = if is_reordered a b then length (order_at a) + length (order_at b) else 0

-- the paths that only one of them has, the leaves that differ, and the items of lists in another order
abbrev pub body_facts : Body → Body → ℕ
body_facts v w = size (removed v w) + size (removed w v) + size (modified v w) + sum_by (λ p. reordered (get v p) (get w p)) (paths v)

-- for each manager of the first table alone, 1 and the size of its set
abbrev pub lone_facts : Table → Table → ℕ
lone_facts t u = sum_by (λ e. if is_in_table u e.manager then 0 else 1 + size e.owned) t

-- the paths that only one of the sets has, and 1 where the moments differ
abbrev pub entry_facts : Entry → Option Entry → ℕ
entry_facts e None = 0
entry_facts e (Some f) = size (minus f.owned e.owned) + (size (minus e.owned f.owned) + one_if (not (same_text e.moment f.moment)))

abbrev pub common_facts : Table → Table → ℕ
common_facts t u = sum_by (λ e. entry_facts e (entry_of u e.manager)) t

abbrev pub table_facts : Table → Table → ℕ
table_facts t u = lone_facts t u + lone_facts u t + common_facts t u

abbrev pub facts : State → State → ℕ
facts v w = body_facts v.body w.body + table_facts v.table w.table
