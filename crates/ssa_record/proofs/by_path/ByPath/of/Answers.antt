use Rattle.std.proofs.Common.{rules, ◌≡◌}
use Rattle.ssa_record.specs.PathOrder.{by_lent_path}
use Rattle.ssa_record.proofs.PathSearch.{order-rises}
use Rattle.ssa_record.proofs.by_path.ByPath.of.Goals as goal

pub invariant_of-result : goal.invariant_of-result
invariant_of-result g c =
    let is : c.in_ok-entries.entries.items ≡ by_lent_path c.args.told.items = search rules in
    record { rising = order-rises c.args.told.items c.in_ok-entries.entries.items is }
