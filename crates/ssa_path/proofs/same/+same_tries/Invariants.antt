use Rattle.std.proofs.Common.{drop}
use Rattle.ssa_path.specs.declared.trie.Trie.TheViews.{out-Trie}
use Rattle.ssa_path.proofs.Comparing.{IsComparing}
use Rattle.ssa_path.proofs.same.+same_tries.Given as goal

abbrev pub invariant-loop-child : goal.invariant-loop-child
invariant-loop-child l = IsComparing l.child-items (out-Trie l.other).below.items (drop l.child-index l.child-items) l.rest.rest.now
