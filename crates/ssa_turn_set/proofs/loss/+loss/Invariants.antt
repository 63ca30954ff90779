use Rattle.std.proofs.Common.{◌≡◌, ◌≤◌, ◌+◌, ◌*◌, true, take}
use Rattle.ssa_path.specs.declared.trie.Trie.TheViews.{out-Trie}
use Rattle.ssa_path.specs.Trie.{paths_below}
use Rattle.ssa_path.proofs.LyingWithin.{AreWithin}
use Rattle.ssa_turn_set.specs.Room.{going, leaving, losses}
use Rattle.ssa_turn_set.proofs.loss.+loss.Given as goal

abbrev pub invariant-make_each_loss-loop-child : goal.invariant-make_each_loss-loop-child
invariant-make_each_loss-loop-child l = record {
  rooms : losses (take l.child-index l.child-items) (paths_below (out-Trie l.own).below.items) l.below.items ≡ true;
  count : l.going ≡ going (take l.child-index l.child-items) (paths_below (out-Trie l.own).below.items);
  few : l.going ≤ l.child-index;
  leave : l.leaving ≡ leaving (take l.child-index l.child-items) (out-Trie l.own).below.items;
  few_leave : l.leaving ≤ l.child-index;
  here : l.has_all ≡ true → (out-Trie l.lost).here ≡ true → (out-Trie l.own).here ≡ true;
  all : l.has_all ≡ true → AreWithin (take l.child-index l.child-items) (out-Trie l.own).below.items;
}

-- three functions pass the same paths on, so each step from one of them to another counts as well
abbrev pub decreases-make_place_loss : goal.decreases-make_place_loss
decreases-make_place_loss l = 4 * goal.size-make_place_loss l + 3

abbrev pub decreases-make_one_loss : goal.decreases-make_one_loss
decreases-make_one_loss l = 4 * goal.size-make_one_loss l + 2

abbrev pub decreases-make_absent_loss : goal.decreases-make_absent_loss
decreases-make_absent_loss l = 4 * goal.size-make_absent_loss l + 1

abbrev pub decreases-make_loss_at : goal.decreases-make_loss_at
decreases-make_loss_at l = 4 * goal.size-make_loss_at l

abbrev pub decreases-make_each_loss : goal.decreases-make_each_loss
decreases-make_each_loss l = 4 * goal.size-make_each_loss l
