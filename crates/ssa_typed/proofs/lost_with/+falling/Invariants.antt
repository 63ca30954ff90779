use Rattle.std.proofs.Common.{◌+◌, ◌*◌, drop, length}
use Rattle.std.specs.Option.{option_copied}
use Rattle.ssa_typed.specs.Rows.{rows}
use Rattle.ssa_typed.proofs.Falling.{IsFalling}
use Rattle.ssa_typed.proofs.lost_with.+falling.Given as goal

abbrev pub decreases-fallen_child : goal.decreases-fallen_child
decreases-fallen_child l = 2 * length (rows l.live.now) + 1

abbrev pub decreases-fallen_below : goal.decreases-fallen_below
decreases-fallen_below l = 2 * length (rows l.live.now)

abbrev pub invariant-fallen_below-loop-part : goal.invariant-fallen_below-loop-part
invariant-fallen_below-loop-part l = IsFalling l.live (option_copied l.config) l.gone l.held (drop l.part-index l.gone) l.fallen.items
