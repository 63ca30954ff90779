use Rattle.ssa_typed.proofs.Sizes.{IsCount}
use Rattle.ssa_typed.proofs.node.Node.+places_below.Given as goal

abbrev pub invariant-loop-child : goal.invariant-loop-child
invariant-loop-child l = IsCount l.children l.child-index l.count
