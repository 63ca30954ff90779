use Rattle.std.proofs.Common.{sym, subst}
use Rattle.std.specs.List.Sorted.{IsStrictlySortedBy}
use Rattle.ssa_members.specs.Members.{IsRising}
use Rattle.ssa_members.proofs.members.Members.new.Goals as goal

pub invariant_of-result : goal.invariant_of-result
unfolding IsStrictlySortedBy
invariant_of-result g c = subst IsRising (sym c.new.ensures.items) tt
