use Rattle.std.proofs.Common.{take}
use Rattle.ssa_typed.specs.Rows.{below}
use Rattle.ssa_turn_body.specs.Found.{AreFound}
use Rattle.ssa_turn_body.proofs.found.places_searched.Given as goal

abbrev pub invariant-loop-child : goal.invariant-loop-child
invariant-loop-child l = AreFound (below l.own) (take l.child-index l.others) l.found.items
