use Rattle.std.proofs.Common.{◌≡◌, true, take}
use Rattle.std.specs.List.{list_all}
use Rattle.ssa_record.specs.Standing.{stands}
use Rattle.ssa_record.proofs.standing.cut_stands.Given as goal

-- the first ones stand
abbrev pub invariant-loop-path : goal.invariant-loop-path
invariant-loop-path l = list_all (stands l.body) (take l.path-index l.cut) ≡ true
