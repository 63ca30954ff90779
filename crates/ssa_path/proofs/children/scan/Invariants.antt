use Rattle.std.proofs.Common.{◌≡◌, drop}
use Rattle.ssa_path.specs.Children.{child_at}
use Rattle.ssa_path.specs.View.{element_view}
use Rattle.ssa_path.proofs.children.scan.Given as goal

-- none of those before is the child
abbrev pub invariant-loop-i : goal.invariant-loop-i
invariant-loop-i g l = child_at (element_view l.element) (drop l.i l.children) ≡ child_at (element_view l.element) l.children
