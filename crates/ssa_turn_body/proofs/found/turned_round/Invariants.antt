use Rattle.std.proofs.Common.{take}
use Rattle.ssa_turn_body.specs.Found.{IsTurnedRound}
use Rattle.ssa_turn_body.proofs.found.turned_round.Given as goal

abbrev pub invariant-loop-i : goal.invariant-loop-i
invariant-loop-i l = IsTurnedRound l.fn.count (take l.i l.found) l.back.items
