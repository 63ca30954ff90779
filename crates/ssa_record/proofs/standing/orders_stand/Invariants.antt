use Rattle.std.proofs.Common.{◌≡◌, true, take}
use Rattle.std.specs.List.{list_all}
use Rattle.ssa_record.specs.Standing.{stands}
use Rattle.ssa_record.proofs.standing.orders_stand.Given as goal

-- the first ones stand
abbrev pub invariant-loop-order : goal.invariant-loop-order
invariant-loop-order l = list_all (λ e. stands l.body e.path) (take l.order-index l.orders) ≡ true
