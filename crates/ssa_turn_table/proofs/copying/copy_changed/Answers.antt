use Rattle.std.proofs.Common.{arith}
use Rattle.ssa_turn_set.proofs.Serving.{each-pushed}
use Rattle.ssa_turn_table.specs.Copies.{ChangeIsCopied}
use Rattle.ssa_turn_table.proofs.copying.copy_changed.Goals as goal

pub loop-change-preserved : goal.loop-change-preserved
loop-change-preserved c =
    each-pushed ChangeIsCopied c.deref-change-items.result.now c.loop-change.change-index c.change-item.result (omega arith) c.change-item.is
    c.loop-change.copies.items c.push.new.self.items c.in_ok-copied.copied c.in_ok-push.ensures.items c.loop-change.invariant c.in_ok-copied.ensures
