use Rattle.std.proofs.Common.{arith}
use Rattle.ssa_members.proofs.Rising.{rising-by-pairs}
use Rattle.ssa_members.proofs.members.rises.Goals as goal

pub returns : goal.returns
returns g c t =
    let past = c.pairs-test.false in
    rising-by-pairs c.args.pairs.now (λ k e lt. c.pairs.invariant.rising k e (omega arith) lt)
