use Rattle.std.proofs.Common.{length}
use Rattle.ssa_path.proofs.trie.Trie.+remove.Given as goal

abbrev pub decreases-remove : goal.decreases-remove
decreases-remove l = length l.elements.now
