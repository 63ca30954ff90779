use Rattle.std.proofs.Common.{◌≡◌, ◌++◌, map}
use Rattle.std.specs.Vec.Iter.{into_iter_items}
use Rattle.ssa_told.specs.Told.{told_here}
use Rattle.ssa_turn_table.specs.Going.{AllKeysAgree}
use Rattle.ssa_turn_table.specs.Tables.{heres_view}
use Rattle.ssa_record.proofs.told_table.heres_of_told.Given as goal

abbrev pub invariant-loop-one : goal.invariant-loop-one
invariant-loop-one l = record {
  told : heres_view l.here.items ++ map told_here (into_iter_items l.one-iterator) ≡ map told_here l.fn.told.items;
  keys : AllKeysAgree l.here.items;
}
