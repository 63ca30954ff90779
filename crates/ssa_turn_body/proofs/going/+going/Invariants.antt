use Rattle.std.proofs.Common.{◌≡◌, ◌+◌, ◌*◌, length, []}
use Rattle.ssa_path.specs.Listing.{way_view}
use Rattle.ssa_typed.specs.Rows.{rows}
use Rattle.ssa_turn_body.specs.Applying.{gone_below}
use Rattle.ssa_turn_body.specs.Turnovers.{passing}
use Rattle.ssa_turn_body.proofs.Meeting.{IsMeeting}
use Rattle.ssa_turn_body.proofs.going.+going.Given as goal

abbrev pub decreases-leave_alone : goal.decreases-leave_alone
decreases-leave_alone l = 2 * length (rows l.child.now.1) + 1

abbrev pub decreases-without : goal.decreases-without
decreases-without l = 2 * length (rows l.live.now)

abbrev pub invariant-without-loop-i : goal.invariant-without-loop-i
invariant-without-loop-i l = record {
  way : l.way.items ≡ l.fn.way.items;
  meeting : IsMeeting (way_view l.fn.way.items) (gone_below l.gone) l.live [] l.fn.steps.items l.i l.count (passing l.turnover) l.steps.items;
}
