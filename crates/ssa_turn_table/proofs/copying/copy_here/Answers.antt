use Rattle.std.proofs.Common.{arith}
use Rattle.ssa_turn_set.proofs.Serving.{each-pushed}
use Rattle.ssa_turn_table.specs.Copies.{HereIsCopied}
use Rattle.ssa_turn_table.proofs.copying.copy_here.Goals as goal

pub loop-one-preserved : goal.loop-one-preserved
loop-one-preserved c =
    each-pushed HereIsCopied c.deref-one-items.result.now c.loop-one.one-index c.one-item.result (omega arith) c.one-item.is
    c.loop-one.copies.items c.push.new.self.items c.in_ok-copied.copied c.in_ok-push.ensures.items c.loop-one.invariant c.in_ok-copied.ensures
