use Rattle.std.proofs.Common.{take}
use Rattle.std.specs.List.{All}
use Rattle.ssa_typed.proofs.SameItems.{IsSameOf}
use Rattle.ssa_typed.proofs.same_items.are_same_items.Given as goal

-- each of the items so far is the same among the others
abbrev pub invariant-loop-i : goal.invariant-loop-i
invariant-loop-i l = All (IsSameOf l.own) (take l.i l.others)
