use Rattle.std.proofs.Common.{take}
use Rattle.ssa_path.specs.View.{path_view}
use Rattle.ssa_record.specs.LedStates.{paths_after}
use Rattle.ssa_record.specs.ToldEntries.{AddsPaths}
use Rattle.ssa_record.proofs.told_delta.add_gone.Given as goal

-- the paths of the children so far are added
abbrev pub invariant-loop-element : goal.invariant-loop-element
invariant-loop-element l = AddsPaths (paths_after (path_view l.place) (path_view (take l.element-index l.gone))) l.fn.cut l.cut
