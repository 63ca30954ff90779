use Rattle.std.proofs.Common.{◌≡◌, ◌≤◌, ◌+◌, ◌*◌, true, take}
use Rattle.ssa_path.specs.Trie.{paths}
use Rattle.ssa_turn_set.specs.Room.{children, freshes, gains, left}
use Rattle.ssa_turn_set.proofs.Shared.{shared}
use Rattle.ssa_turn_set.proofs.Staying.{stale}
use Rattle.ssa_turn_set.proofs.making.+gain_room.Given as goal

abbrev pub invariant-make_each_gain-loop-child : goal.invariant-make_each_gain-loop-child
invariant-make_each_gain-loop-child l = record {
  rooms : gains (take l.child-index l.child-items) (left (paths l.own) (paths l.lost)) l.below.items ≡ true;
  count : l.coming ≡ freshes (take l.child-index l.child-items) (left (paths l.own) (paths l.lost));
  few : l.coming ≤ l.child-index;
  leave : l.leaving ≡ shared (stale (left (paths l.own) (paths l.lost))) (take l.child-index l.child-items) (children l.own);
  few_leave : l.leaving ≤ l.child-index;
}

abbrev pub decreases-make_place_gain : goal.decreases-make_place_gain
decreases-make_place_gain l = 2 * goal.size-make_place_gain l + 1

abbrev pub decreases-make_one_gain : goal.decreases-make_one_gain
decreases-make_one_gain l = 2 * goal.size-make_one_gain l

abbrev pub decreases-make_each_gain : goal.decreases-make_each_gain
decreases-make_each_gain l = 2 * goal.size-make_each_gain l
