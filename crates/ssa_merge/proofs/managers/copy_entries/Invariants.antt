use Rattle.std.proofs.Common.{◌≡◌, ◌≤◌, take}
use Rattle.arrayvec.specs.ArrayVec.{array_vec_len}
use Rattle.ssa_merge.specs.Managers.{table_view}
use Rattle.ssa_merge.proofs.managers.copy_entries.Given as goal

abbrev pub invariant-loop-entry : goal.invariant-loop-entry
invariant-loop-entry l = (table_view l.copied.items ≡ table_view (take l.entry-index l.entries)) × (array_vec_len l.copied ≤ l.entry-index)
