use Rattle.std.proofs.Common.{◌≤◌, take}
use Rattle.ssa_turn_body.specs.Found.{somes}
use Rattle.ssa_turn_body.specs.Woven.{ArePlaces}
use Rattle.ssa_turn_body.proofs.found.are_rising.Given as goal

abbrev pub invariant-loop-i : goal.invariant-loop-i
invariant-loop-i l = record { rise : ArePlaces 0 (somes (take l.i l.found)) l.least; within : l.least ≤ l.count }
