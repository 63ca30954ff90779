use Rattle.std.proofs.Common.{drop}
use Rattle.ssa_path.specs.View.{path_view}
use Rattle.ssa_path.proofs.Levels.{IsOnWay}
use Rattle.ssa_path.proofs.trie.Trie.place.Given as goal

abbrev pub invariant-loop-element : goal.invariant-loop-element
invariant-loop-element l = IsOnWay l.self (path_view l.elements) l.place (path_view (drop l.element-index l.elements))
