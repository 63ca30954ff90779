use Rattle.std.proofs.Common.{take}
use Rattle.std.specs.List.{All}
use Rattle.ssa_path.specs.SortKeys.{BeginsWith}
use Rattle.ssa_path.specs.View.{element_view}
use Rattle.ssa_path.proofs.sort_key.shared_start.Given as goal

-- all so far begin with what is shared
abbrev pub invariant-loop-child : goal.invariant-loop-child
invariant-loop-child g l = All (λ c. BeginsWith l.start (element_view l.first) (element_view c.0)) (take l.child-index l.children)
