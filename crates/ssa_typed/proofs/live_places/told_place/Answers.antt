use Rattle.std.proofs.Common.{subst}
use Rattle.std.specs.List.{All}
use Rattle.std.proofs.Common.{◌≡◌, ◌==◌, ℕ, false, map}
use Rattle.ssa_path.specs.View.{element_view}
use Rattle.ssa_typed.proofs.LivePlaces.{absent-number}
use Rattle.ssa_typed.proofs.live_places.told_place.Goals as goal

pub returns-in-None : goal.returns-in-None
returns-in-None c =
    absent-number (element_view c.args.first.now) c.args.skip (element_view c.args.element.now) c.args.live.now c.args.numbered.now c.requires.numbered
    (subst (λ n. All (λ m. (m == n) ≡ false) (map (λ (p : ℕ × ℕ). p.0) c.args.numbered.now)) c.element_key.ensures c.in-None.ensures)
