use Rattle.std.proofs.Common.{◌≡◌, drop}
use Rattle.ssa_schema.specs.Repeats.{same_tagged, tagged_view, least_from, least_repeat, placed_view}
use Rattle.ssa_schema.proofs.fit.repeated.least_repeat.Given as goal

-- with those that are left, the place is the whole list's
abbrev pub invariant-loop-next : goal.invariant-loop-next
invariant-loop-next l =
    least_from same_tagged l.least (tagged_view l.last) (placed_view (drop l.next-index l.rest)) ≡ least_repeat same_tagged (placed_view l.sorted)
