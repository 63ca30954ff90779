use Rattle.std.proofs.Common.{◌≡◌, map, take}
use Rattle.ssa_typed.specs.InOrder.{referred}
use Rattle.ssa_typed.specs.Keyed.{child_of}
use Rattle.ssa_typed.proofs.keyed.children_of.Given as goal

-- the children so far
abbrev pub invariant-loop-child : goal.invariant-loop-child
invariant-loop-child l = referred l.children.items ≡ map child_of (take l.child-index l.keyed)
