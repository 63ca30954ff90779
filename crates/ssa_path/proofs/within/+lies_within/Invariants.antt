use Rattle.std.proofs.Common.{◌+◌, ◌*◌, take}
use Rattle.ssa_path.specs.declared.trie.Trie.TheViews.{out-Trie}
use Rattle.ssa_path.proofs.LyingWithin.{AreWithin}
use Rattle.ssa_path.proofs.within.+lies_within.Given as goal

abbrev pub invariant-lies_within_near-loop-child : goal.invariant-lies_within_near-loop-child
invariant-lies_within_near-loop-child l = AreWithin (take l.child-index l.child-items) (out-Trie l.other).below.items

-- one of the two passes the same paths on to the other, so that step counts as well
abbrev pub decreases-lies_there : goal.decreases-lies_there
decreases-lies_there l = 2 * goal.size-lies_there l + 1

abbrev pub decreases-lies_within_near : goal.decreases-lies_within_near
decreases-lies_within_near l = 2 * goal.size-lies_within_near l
