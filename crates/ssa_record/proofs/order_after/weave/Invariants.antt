use Rattle.ssa_record.proofs.Slots.{IsWovenTo}
use Rattle.ssa_record.proofs.order_after.weave.Given as goal

abbrev pub invariant-loop-slot : goal.invariant-loop-slot
invariant-loop-slot l = IsWovenTo l.slots l.stays l.slot-index l.next l.all.items
