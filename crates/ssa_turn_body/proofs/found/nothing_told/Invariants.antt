use Rattle.std.proofs.Common.{◌≡◌}
use Rattle.ssa_turn_body.specs.Found.{nothing_told}
use Rattle.ssa_turn_body.proofs.found.nothing_told.Given as goal

abbrev pub invariant-loop-i : goal.invariant-loop-i
invariant-loop-i l = l.places.items ≡ nothing_told l._i
