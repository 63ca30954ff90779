use Rattle.std.proofs.Common.{arith}
use Rattle.std.specs.Borrow.{Bor}
use Rattle.ssa_json.specs.View.{view}
use Rattle.ssa_told.specs.declared.told.ToldPut.{ToldPut}
use Rattle.ssa_record.specs.ToldEntries.{told_put}
use Rattle.ssa_record.proofs.ToldLists.{read-more}
use Rattle.ssa_record.proofs.told_places.puts_told.Goals as goal

pub loop-put-preserved : goal.loop-put-preserved
loop-put-preserved c =
    read-more told_put (λ (x : Bor ToldPut). (view x.now.value, x.now.place)) c.args.puts.now c.loop-put.put-index c.put-item.result c.args.touched.now
    c.loop-put.touched c.insert.new.self c.loop-put.told.items c.push.new.self.items _
    (omega arith) c.put-item.is c.loop-put.invariant c.in_ok-insert.ensures.ok c.in_ok-push.ensures.items
    (λ i. (c.lent.ensures i, (view c.put-item.result.value, c.put-item.result.place)))
