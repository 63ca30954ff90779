use Rattle.std.proofs.Common.{◌≡◌, map, take}
use Rattle.ssa_path.specs.View.{element_view}
use Rattle.ssa_typed.specs.MergedOrder.{numbers}
use Rattle.ssa_typed.proofs.live_places.numbered_places.Given as goal

abbrev pub invariant-loop-i : goal.invariant-loop-i
invariant-loop-i l = map (λ p. p.0) l.numbered.items ≡ numbers (element_view l.first) l.skip (take l.i l.live)
