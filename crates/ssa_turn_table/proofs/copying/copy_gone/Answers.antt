use Rattle.std.proofs.Common.{arith}
use Rattle.ssa_turn_set.proofs.Serving.{each-pushed}
use Rattle.ssa_turn_table.specs.Copies.{KeyIsCopied}
use Rattle.ssa_turn_table.proofs.copying.copy_gone.Goals as goal

pub loop-key-preserved : goal.loop-key-preserved
loop-key-preserved c =
    each-pushed KeyIsCopied c.deref-key-items.result.now c.loop-key.key-index c.key-item.result (omega arith) c.key-item.is
    c.loop-key.copies.items c.push.new.self.items c.in_ok-copied.copied c.in_ok-push.ensures.items c.loop-key.invariant c.in_ok-copied.ensures
