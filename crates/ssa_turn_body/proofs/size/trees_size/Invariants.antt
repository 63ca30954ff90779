use Rattle.std.proofs.Common.{◌≡◌, ◌-◌, ◌^◌, min, take}
use Rattle.ssa_turn_body.specs.Sizes.{trees_size}
use Rattle.ssa_turn_body.proofs.size.trees_size.Given as goal

abbrev pub invariant-loop-child : goal.invariant-loop-child
invariant-loop-child l = l.size ≡ min (trees_size (take l.child-index l.held)) (2 ^ 64 - 1)
