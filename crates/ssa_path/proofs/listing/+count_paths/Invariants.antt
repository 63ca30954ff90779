use Rattle.std.proofs.Common.{take}
use Rattle.ssa_path.specs.declared.trie.Trie.TheViews.{out-Trie}
use Rattle.ssa_path.proofs.InOrder.{IsCounting}
use Rattle.ssa_path.proofs.listing.+count_paths.Given as goal

abbrev pub invariant-loop-child : goal.invariant-loop-child
invariant-loop-child l = IsCounting (out-Trie l.trie).here (take l.child-index l.child-items) l.count
