use Rattle.std.proofs.Common.{◌≡◌, ◌+◌, length}
use Rattle.std.specs.Vec.Iter.{into_iter_items}
use Rattle.ssa_turn_body.specs.Turnovers.{passing, with_all_come}
use Rattle.ssa_turn_body.proofs.turnover.all_come.Given as goal

abbrev pub invariant-loop-child : goal.invariant-loop-child
invariant-loop-child l = record {
  come : with_all_come l.next (into_iter_items l.child-iterator) (passing l.turnover) ≡ with_all_come l.fn.place l.fn.children.items (passing l.fn.turnover);
  count : l.next + length (into_iter_items l.child-iterator) ≡ l.fn.place + length l.fn.children.items;
}
