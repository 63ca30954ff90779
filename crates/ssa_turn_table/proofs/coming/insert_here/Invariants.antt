use Rattle.std.proofs.Common.{◌≡◌, ◌≤◌, ◌+◌, ◌++◌, length, map}
use Rattle.std.specs.Prelude.{vec_len, vec_capacity}
use Rattle.ssa_model.specs.definitions.Table.{Table}
use Rattle.ssa_merge.specs.Managers.{table_view}
use Rattle.ssa_turn_table.specs.Coming.{AreComing}
use Rattle.ssa_turn_table.specs.Going.{AllKeysAgree}
use Rattle.ssa_turn_table.specs.Tables.{keys_view, heres_view}
use Rattle.ssa_turn_table.proofs.Inserting.{IsInserting}
use Rattle.ssa_turn_table.proofs.coming.insert_here.Given as goal

abbrev pub invariant-loop-here : goal.invariant-loop-here
invariant-loop-here l = record {
  coming : (u : Table) (h : AreComing u (table_view l.fn.entries.items) (heres_view l.fn.here.items))
      → IsInserting h.comes u (table_view l.entries.items) (heres_view l.here.items);
  told : (u : Table) × AreComing u (table_view l.fn.entries.items) (heres_view l.fn.here.items) × (length u ≤ 64);
  listed : keys_view l.out.items ++ map (λ h. h.1.manager) (heres_view l.here.items) ≡ map (λ h. h.1.manager) (heres_view l.fn.here.items);
  keys : AllKeysAgree l.here.items;
  room : vec_len l.out + vec_len l.here ≤ vec_capacity l.out;
  left : vec_capacity l.here ≡ vec_capacity l.fn.here;
}

abbrev pub decreases-loop-here : goal.decreases-loop-here
decreases-loop-here l = vec_len l.here
