-- Configurations of a part.
use Rattle.std.specs.Prelude.{◌≡◌, true, false}
use Rattle.ssa_model.specs.definitions.Body.{Body}
use Rattle.ssa_model.specs.definitions.Parts.{Subresource, is_path_of}
use Rattle.ssa_model.specs.definitions.Path.{Path, is_root}
use Rattle.ssa_model.specs.definitions.PathMap.{has}

-- the body has nothing outside the part, but its root
abbrev pub IsOfPart : Subresource → Body → Type 0
IsOfPart s b = (p : Path) → is_root p ≡ false → has b p ≡ true → is_path_of s p ≡ true
