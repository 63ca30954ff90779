use Rattle.std.proofs.Common.{◌≡◌, take}
use Rattle.ssa_path.proofs.Lists.{shapes}
use Rattle.ssa_path.proofs.trie.+copy.Given as goal

abbrev pub invariant-copied-loop-child : goal.invariant-copied-loop-child
invariant-copied-loop-child l = shapes l.below.items ≡ shapes (take l.child-index l.child-items)
