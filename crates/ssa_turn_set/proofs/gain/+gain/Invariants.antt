use Rattle.std.proofs.Common.{◌≡◌, ◌-◌, ◌++◌, length, reverse, take, drop, true}
use Rattle.std.specs.Prelude.{vec_capacity}
use Rattle.ssa_path.specs.Children.{elements, rises}
use Rattle.ssa_turn_set.proofs.Gaining.{IsGaining}
use Rattle.ssa_turn_set.proofs.gain.+gain.Given as goal

abbrev pub invariant-put_each_in-loop-i : goal.invariant-put_each_in-loop-i
invariant-put_each_in-loop-i l =
    IsGaining l.fn.below.items (take l.i l.gained) (drop l.i l.gained) (take l.i l.rooms.items) (drop l.i l.rooms.items) l.below.items (vec_capacity l.below)

abbrev pub decreases-put_each_in-loop-i : goal.decreases-put_each_in-loop-i
decreases-put_each_in-loop-i l = length l.gained - l.i

abbrev pub invariant-weave_in-loop-i : goal.invariant-weave_in-loop-i
invariant-weave_in-loop-i l =
    IsGaining l.fn.below.items (take l.i l.gained) (drop l.i l.gained) (take l.i l.rooms.items) (drop l.i l.rooms.items)
    (l.children.items ++ reverse l.below.items) (vec_capacity l.children)
    × (rises (elements l.children.items ++ elements (drop l.i l.gained)) ≡ true)
    × (vec_capacity l.below ≡ vec_capacity l.fn.below)

abbrev pub decreases-weave_in-loop-i : goal.decreases-weave_in-loop-i
decreases-weave_in-loop-i l = length l.gained - l.i
