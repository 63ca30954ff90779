use Rattle.std.proofs.Common.{◌≡◌, ◌≤◌, length, filter, not, take}
use Rattle.ssa_merge.specs.TableChanges.{leaves}
use Rattle.ssa_merge.proofs.table_change.count_kept.Given as goal

abbrev pub invariant-loop-change : goal.invariant-loop-change
invariant-loop-change l = (l.kept ≡ length (filter (λ c. not (leaves c)) (take l.change-index l.changes))) × (l.kept ≤ l.change-index)
