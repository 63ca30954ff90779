-- How a change in place reaches what a record leads to: what goes is taken out, then what comes is put in, one after the other, at rising places.
use Rattle.std.specs.Prelude.{◌≡◌, ℕ, zero, suc, ◌+◌, List, true, map, filter, filter_map, Option, Some, None}
use Rattle.std.specs.List.{insert}
use Rattle.ssa_model.specs.definitions.Path.{Element, Path}
use Rattle.ssa_model.specs.definitions.PathMap.{get}
use Rattle.ssa_model.specs.definitions.Kind.{Kind}
use Rattle.ssa_model.specs.definitions.Body.{Body, list_branch}
use Rattle.ssa_model.specs.definitions.Table.{Table, is_in_table, entry_of}
use Rattle.ssa_model.specs.definitions.Valid.{has_distinct_keys, KeepsOrder}
use Rattle.ssa_model.specs.definitions.Fitting.{IsBodyOf}
use Rattle.ssa_model.specs.definitions.Record.{change_of, body_record, table_record}
use Rattle.ssa_model.specs.definitions.Carry.{changed_entry, placed_at, end_of, place_in, put_item, staying_items, staying}

-- at each of n places from i on, the element that is given for it is inserted there
abbrev pub inserted : {X : Type 0} → (ℕ → Option X) → ℕ → ℕ → List X → List X
inserted at i zero xs = xs
inserted at i (suc n) xs = inserted at (i + 1) n (elim (at i) [ None ↦ xs | Some y ↦ insert xs i y ])

-- a table, without those who are gone and changed, becomes the second one by inserting those who are here
abbrev pub TableIsInserted : Type 0
TableIsInserted =
    (t u : Table) → has_distinct_keys t ≡ true → has_distinct_keys u ≡ true → KeepsOrder t u
    → let d = table_record t u in inserted (placed_at d.here) 0 (end_of (map (λ e. e.0) d.here)) (staying d t) ≡ u

-- the entries that stay, each led to what the second table has of its manager, are those of the second table, in its order
abbrev pub StayersAreLed : Type 0
StayersAreLed =
    (t u : Table) → has_distinct_keys t ≡ true → has_distinct_keys u ≡ true → KeepsOrder t u
    → map (λ e. changed_entry (change_of e (entry_of u e.manager)) e) (filter (λ e. is_in_table u e.manager) t) ≡ filter (λ e. is_in_table t e.manager) u

-- a list without what is cut becomes the second body's by inserting what is put, where the record has no order for it
abbrev pub ItemsAreInserted : Type 0
ItemsAreInserted =
    (kind : Kind) (v w : Body) (p : Path) (es fs : List Element) → IsBodyOf kind v → IsBodyOf kind w
    → get v p ≡ Some (list_branch es) → get w p ≡ Some (list_branch fs)
    → let d = body_record v w in get d.order p ≡ None
    → inserted (put_item d.put.entries p) 0 (end_of (filter_map (place_in p) d.put.entries)) (staying_items d p es) ≡ fs
