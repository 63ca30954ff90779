use Rattle.std.proofs.Common.{◌+◌, ◌-◌, length}
use Rattle.ssa_path.specs.declared.trie.Trie.TheViews.{out-Trie}
use Rattle.ssa_path.proofs.Parted.{IsParting}
use Rattle.ssa_path.proofs.parting.+part.Given as goal

abbrev pub invariant-part-loop-order : goal.invariant-part-loop-order
invariant-part-loop-order l = IsParting (out-Trie l.own).below.items (out-Trie l.other).below.items l.i l.j l.own_left.items l.other_left.items

abbrev pub decreases-part-loop-order : goal.decreases-part-loop-order
decreases-part-loop-order l = (length (out-Trie l.own).below.items - l.i) + (length (out-Trie l.other).below.items - l.j)
