-- Each place of a body but its root is at or above one of its points, and a part of it is told by its places alone.
use Rattle.std.specs.Prelude.{◌≡◌, true, ◌||◌}
use Rattle.ssa_model.specs.definitions.Path.{Path, is_root}
use Rattle.ssa_model.specs.definitions.PathMap.{PathSet, has, has_at_or_below}
use Rattle.ssa_model.specs.definitions.Body.{Body, points, restricted}

-- the points tell all the places
abbrev pub PointsTellPlaces : Body → Type 0
PointsTellPlaces b = (p : Path) → has b p ≡ (is_root p || has_at_or_below (points b) p)

-- where all the points stay, all of the body stays
abbrev pub PointsKeepAll : Body → Type 0
PointsKeepAll b = (stay : PathSet) → ((p : Path) → has (points b) p ≡ true → has stay p ≡ true) → restricted b (λ p. is_root p || has_at_or_below stay p) ≡ b

-- sets with paths at or below the same places leave the same part of the body
abbrev pub PartsAreOfPlaces : Body → Type 0
PartsAreOfPlaces b = (s t : PathSet) → ((p : Path) → has b p ≡ true → has_at_or_below s p ≡ has_at_or_below t p)
    → restricted b (λ p. is_root p || has_at_or_below s p) ≡ restricted b (λ p. is_root p || has_at_or_below t p)
