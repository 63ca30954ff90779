use Rattle.std.proofs.Common.{arith}
use Rattle.std.specs.Borrow.{Bor}
use Rattle.ssa_json.specs.View.{view}
use Rattle.ssa_json.specs.declared.value.Json.{Json}
use Rattle.ssa_record.specs.ToldEntries.{told_leaf}
use Rattle.ssa_record.proofs.ToldLists.{read-more}
use Rattle.ssa_record.proofs.told_places.leaves_told.Goals as goal

pub loop-leaf-preserved : goal.loop-leaf-preserved
loop-leaf-preserved c =
    read-more told_leaf (λ (v : Bor Json). view v.now) c.args.leaves.now c.loop-leaf.leaf-index c.leaf-item.result c.args.touched.now c.loop-leaf.touched
    c.insert.new.self c.loop-leaf.told.items c.push.new.self.items _
    (omega arith) c.leaf-item.is c.loop-leaf.invariant c.in_ok-insert.ensures.ok c.in_ok-push.ensures.items
    (λ i. (c.lent.ensures i, view c.leaf-item.result.value))
