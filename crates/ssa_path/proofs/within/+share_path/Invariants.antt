use Rattle.std.proofs.Common.{take}
use Rattle.ssa_path.specs.declared.trie.Trie.TheViews.{out-Trie}
use Rattle.ssa_path.proofs.Meeting.{ShareNone}
use Rattle.ssa_path.proofs.within.+share_path.Given as goal

abbrev pub invariant-loop-child : goal.invariant-loop-child
invariant-loop-child l = ShareNone (take l.child-index l.child-items) (out-Trie l.other).below.items
