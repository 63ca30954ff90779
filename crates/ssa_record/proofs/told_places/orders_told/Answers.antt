use Rattle.std.proofs.Common.{arith}
use Rattle.std.proofs.Common.{List}
use Rattle.std.specs.Borrow.{Bor}
use Rattle.ssa_path.specs.View.{path_view}
use Rattle.ssa_path.specs.declared.element.Elem.{Elem}
use Rattle.ssa_record.specs.ToldEntries.{told_order}
use Rattle.ssa_record.proofs.ToldLists.{read-more}
use Rattle.ssa_record.proofs.told_places.orders_told.Goals as goal

pub loop-order-preserved : goal.loop-order-preserved
loop-order-preserved c =
    read-more told_order (λ (es : Bor (List Elem)). path_view es.now) c.args.orders.now c.loop-order.order-index c.order-item.result c.args.touched.now
    c.loop-order.touched c.insert.new.self c.loop-order.told.items c.push.new.self.items _
    (omega arith) c.order-item.is c.loop-order.invariant c.in_ok-insert.ensures.ok c.in_ok-push.ensures.items
    (λ i. (c.lent.ensures i, path_view (c.as_slice.ensures.value i)))
