use Rattle.std.proofs.Common.{◌≡◌, ℕ, length, get_or, None}
use Rattle.ssa_record.proofs.order_after.free_slots.Given as goal

abbrev pub invariant-loop-i : goal.invariant-loop-i
invariant-loop-i l = (length l.slots.items ≡ l._i) × ((j : ℕ) → get_or l.slots.items j None ≡ None)
