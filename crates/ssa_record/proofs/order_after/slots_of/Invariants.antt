use Rattle.std.proofs.Common.{length}
use Rattle.ssa_record.proofs.Slots.{AreInSlots}
use Rattle.ssa_record.proofs.order_after.slots_of.Given as goal

-- what is taken off the end stands in the slots
abbrev pub invariant-loop-place : goal.invariant-loop-place
invariant-loop-place l = AreInSlots l.fn.puts.items l.rest.items l.count l.slots.items

abbrev pub decreases-loop-place : goal.decreases-loop-place
decreases-loop-place l = length l.rest.items
