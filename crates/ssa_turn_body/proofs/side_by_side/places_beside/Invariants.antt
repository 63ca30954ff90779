use Rattle.std.proofs.Common.{◌+◌, ◌-◌, length}
use Rattle.ssa_turn_body.proofs.Beside.{AreBeside}
use Rattle.ssa_turn_body.proofs.side_by_side.places_beside.Given as goal

abbrev pub invariant-loop-order : goal.invariant-loop-order
invariant-loop-order l = AreBeside l.own l.others l.i l.j l.found.items

abbrev pub decreases-loop-order : goal.decreases-loop-order
decreases-loop-order l = (length l.own - l.i) + (length l.others - l.j)
