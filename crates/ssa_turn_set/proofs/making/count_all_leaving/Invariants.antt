use Rattle.std.proofs.Common.{◌≡◌, ◌≤◌, take}
use Rattle.ssa_turn_set.specs.Room.{leaving_beside}
use Rattle.ssa_turn_set.proofs.making.count_all_leaving.Given as goal

abbrev pub invariant-loop-child : goal.invariant-loop-child
invariant-loop-child l = record {
  count : l.count ≡ leaving_beside l.gained (take l.child-index l.lost) l.own;
  few : l.count ≤ l.child-index;
}
