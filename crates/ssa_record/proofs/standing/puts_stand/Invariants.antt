use Rattle.std.proofs.Common.{◌≡◌, true, take}
use Rattle.std.specs.List.{list_all}
use Rattle.ssa_record.specs.Standing.{stands}
use Rattle.ssa_record.proofs.standing.puts_stand.Given as goal

-- the first ones stand
abbrev pub invariant-loop-put : goal.invariant-loop-put
invariant-loop-put l = list_all (λ e. stands l.body e.path) (take l.put-index l.puts) ≡ true
