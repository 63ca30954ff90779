use Rattle.std.proofs.Common.{◌≡◌, replicate}
use Rattle.ssa_merge.specs.declared.table_change.EntryChange.TheVariants.{Leaves}
use Rattle.ssa_merge.proofs.seat.emptied.Given as goal

abbrev pub invariant-loop : goal.invariant-loop
invariant-loop l = l.entries.items ≡ replicate l.counter Leaves
