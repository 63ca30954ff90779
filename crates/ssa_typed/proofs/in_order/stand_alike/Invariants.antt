use Rattle.std.proofs.Common.{◌≡◌, take}
use Rattle.ssa_path.specs.Children.{elements}
use Rattle.ssa_typed.proofs.in_order.stand_alike.Given as goal

abbrev pub invariant-loop-i : goal.invariant-loop-i
invariant-loop-i l = elements (take l.i l.own) ≡ elements (take l.i l.others)
