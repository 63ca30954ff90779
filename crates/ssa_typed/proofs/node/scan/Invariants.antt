use Rattle.std.proofs.Common.{◌≡◌, drop}
use Rattle.ssa_path.specs.Children.{child_at}
use Rattle.ssa_path.specs.View.{element_view}
use Rattle.ssa_typed.proofs.node.scan.Given as goal

abbrev pub invariant-loop-own : goal.invariant-loop-own
invariant-loop-own l = child_at (element_view l.element) l.children ≡ child_at (element_view l.element) (drop l.own-index l.children)
