use Rattle.std.proofs.Common.{◌≡◌, take}
use Rattle.ssa_turn_body.specs.Found.{somes}
use Rattle.ssa_turn_body.proofs.found.told_places.Given as goal

abbrev pub invariant-loop-i : goal.invariant-loop-i
invariant-loop-i l = l.places.items ≡ somes (take l.i l.found)
