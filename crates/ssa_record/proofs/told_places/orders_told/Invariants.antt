use Rattle.ssa_record.specs.ToldEntries.{told_order}
use Rattle.ssa_record.proofs.ToldLists.{IsReadTo}
use Rattle.std.proofs.Common.{List}
use Rattle.std.specs.Borrow.{Bor}
use Rattle.ssa_path.specs.View.{path_view}
use Rattle.ssa_path.specs.declared.element.Elem.{Elem}
use Rattle.ssa_record.proofs.told_places.orders_told.Given as goal

-- what is passed is read
abbrev pub invariant-loop-order : goal.invariant-loop-order
invariant-loop-order l = IsReadTo told_order (λ (es : Bor (List Elem)). path_view es.now) l.orders l.order-index l.fn.touched l.touched l.told.items
