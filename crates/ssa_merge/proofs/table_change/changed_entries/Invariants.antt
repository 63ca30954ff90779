use Rattle.std.proofs.Common.{◌≡◌, ◌++◌, ◌+◌, ◌≤◌, length, drop}
use Rattle.std.specs.Vec.Iter.{into_iter_items}
use Rattle.arrayvec.specs.ArrayVec.{array_vec_len}
use Rattle.ssa_merge.specs.Managers.{table_view}
use Rattle.ssa_merge.specs.TableChanges.{changed_entries}
use Rattle.ssa_merge.proofs.table_change.changed_entries.Given as goal

abbrev pub invariant-loop-change : goal.invariant-loop-change
invariant-loop-change l =
    (table_view l.made.items ++ changed_entries (into_iter_items l.change-iterator) (table_view (drop l.place l.table))
    ≡ changed_entries l.fn.changes.items (table_view l.table))
    × (array_vec_len l.made ≤ l.place)
    × (l.place + length (into_iter_items l.change-iterator) ≡ length l.table)
