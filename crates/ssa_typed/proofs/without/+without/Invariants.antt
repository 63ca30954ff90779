use Rattle.std.proofs.Common.{◌+◌, ◌*◌, length}
use Rattle.std.specs.Vec.Iter.{into_iter_items}
use Rattle.ssa_path.specs.Trie.{paths_below}
use Rattle.ssa_typed.specs.Rows.{rows, rows_below}
use Rattle.ssa_typed.specs.Without.{AreKept}
use Rattle.ssa_typed.proofs.Leaving.{IsLeaving}
use Rattle.ssa_typed.proofs.without.+without.Given as goal

abbrev pub decreases-children_without : goal.decreases-children_without
decreases-children_without l = 4 * length (rows_below l.children.items) + 3

abbrev pub decreases-child_without : goal.decreases-child_without
decreases-child_without l = 4 * length (rows l.node) + 2

abbrev pub decreases-node_without : goal.decreases-node_without
decreases-node_without l = 4 * length (rows l.node)

abbrev pub invariant-children_without-loop-child : goal.invariant-children_without-loop-child
invariant-children_without-loop-child l =
    IsLeaving (AreKept l.fn.children.items (paths_below l.gone)) l.fn.children.items (into_iter_items l.child-iterator) l.kept.items
