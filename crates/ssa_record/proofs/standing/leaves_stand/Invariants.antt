use Rattle.std.proofs.Common.{◌≡◌, true, take}
use Rattle.std.specs.List.{list_all}
use Rattle.ssa_record.specs.Standing.{stands}
use Rattle.ssa_record.proofs.standing.leaves_stand.Given as goal

-- the first ones stand
abbrev pub invariant-loop-leaf : goal.invariant-loop-leaf
invariant-loop-leaf l = list_all (λ e. stands l.body e.path) (take l.leaf-index l.leaves) ≡ true
