-- The flattening of a value without faults that names no member twice fits its kind place by place, and is rooted.
-- With the laws of `ShownBodies`: a body whose atomic values name no member twice fits a lawful kind and is rooted
-- exactly where it is the flattening of such a value.
use Rattle.std.specs.Prelude.{◌≡◌, [], true, Some}
use Rattle.ssa_model.specs.definitions.MemberNames.{has_distinct_names}
use Rattle.ssa_model.specs.definitions.Json.{Json}
use Rattle.ssa_model.specs.definitions.Path.{Path}
use Rattle.ssa_model.specs.definitions.PathMap.{get}
use Rattle.ssa_model.specs.definitions.Kind.{Kind, faults}
use Rattle.ssa_model.specs.definitions.Lawful.{is_lawful}
use Rattle.ssa_model.specs.definitions.Body.{Body, atom, flat}
use Rattle.ssa_model.specs.definitions.Fitting.{IsBodyOf}
use Rattle.ssa_model.specs.definitions.Objects.{shown}
use Rattle.ssa_model.specs.definitions.Valid.{IsRooted}

abbrev pub FlatFits : Type 0
FlatFits = (kind : Kind) (v : Json) → is_lawful kind ≡ true → has_distinct_names v ≡ true → faults kind v [] ≡ [] → IsBodyOf kind (flat kind v)

abbrev pub FlatIsRooted : Type 0
FlatIsRooted = (kind : Kind) (v : Json) → is_lawful kind ≡ true → has_distinct_names v ≡ true → faults kind v [] ≡ [] → IsRooted (flat kind v)

-- ---- names in atomic values, of which the schema says nothing

-- no object in an atomic value of the body names a member twice
abbrev pub HasDistinctAtoms : Body → Type 0
HasDistinctAtoms body = (p : Path) (v : Json) → get body p ≡ Some (atom v) → has_distinct_names v ≡ true

abbrev pub ShownIsDistinct : Type 0
ShownIsDistinct = (kind : Kind) (body : Body) → is_lawful kind ≡ true → IsBodyOf kind body → HasDistinctAtoms body
    → has_distinct_names (shown kind body []) ≡ true

abbrev pub FlatHasDistinctAtoms : Type 0
FlatHasDistinctAtoms = (kind : Kind) (v : Json) → is_lawful kind ≡ true → has_distinct_names v ≡ true → faults kind v [] ≡ [] → HasDistinctAtoms (flat kind v)
