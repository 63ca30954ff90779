use Rattle.std.proofs.Common.{arith}
use Rattle.ssa_schema.proofs.fit.distinct_tags.rise.Goals as goal

pub returns : goal.returns
returns c t =
    let past = c.numbers-test.false in
    λ k lt. c.numbers.invariant.rising k (omega arith) lt
