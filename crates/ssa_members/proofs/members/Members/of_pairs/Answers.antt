use Rattle.std.proofs.Common.{subst}
use Rattle.ssa_members.specs.Members.{IsRising}
use Rattle.ssa_members.proofs.Made.{made-rising}
use Rattle.ssa_members.proofs.members.Members.of_pairs.Goals as goal

pub returns-then-rises : goal.returns-then-rises
returns-then-rises g c = made-rising c.args.pairs.items (subst IsRising c.deref.ensures.value (c.rises.ensures c.if-rises.true))
