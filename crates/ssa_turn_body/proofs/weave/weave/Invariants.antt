use Rattle.std.proofs.Common.{◌≡◌, ◌≤◌, ◌+◌, ◌-◌, drop, length, reverse, vec_capacity, vec_len}
use Rattle.ssa_turn_body.specs.Woven.{left}
use Rattle.ssa_turn_body.proofs.Weaving.{IsWeaving}
use Rattle.ssa_turn_body.proofs.weave.weave.Given as goal

abbrev pub invariant-loop-room : goal.invariant-loop-room
invariant-loop-room g l =
    IsWeaving l.gone l.come l.fn.held.items l.fn.items.items l.place (drop l.gone_done l.gone) (drop l.come_done l.come) (reverse l.items.items)
    (reverse l.held.items) l.out.items l.room.items
    × (l.gone_done ≤ length l.gone) × (l.come_done ≤ length l.come)
    × (length l.fn.held.items + length (left l.gone 0 l.fn.items.items) ≤ vec_capacity l.room) × (length l.gone ≤ vec_capacity l.out)
    × (vec_capacity l.items ≡ vec_capacity l.fn.items) × (vec_capacity l.held ≡ vec_capacity l.fn.held)

abbrev pub decreases-loop-room : goal.decreases-loop-room
decreases-loop-room g l = vec_len l.items + (length l.come - l.come_done)
