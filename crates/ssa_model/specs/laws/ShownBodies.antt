-- The value that a body shows has no fault, and the body is its flattening; and the value of which it is the flattening is the one that it shows.
use Rattle.std.specs.Prelude.{◌≡◌, [], true}
use Rattle.ssa_model.specs.definitions.Kind.{Kind, faults}
use Rattle.ssa_model.specs.definitions.Lawful.{is_lawful}
use Rattle.ssa_model.specs.definitions.Body.{Body, flat, without_empty_metadata}
use Rattle.ssa_model.specs.definitions.Json.{Json, object}
use Rattle.ssa_model.specs.definitions.MemberNames.{has_rising_names}
use Rattle.ssa_model.specs.definitions.Fitting.{IsBodyOf}
use Rattle.ssa_model.specs.definitions.Objects.{shown}
use Rattle.ssa_model.specs.definitions.Valid.{IsRooted}

abbrev pub ShownFits : Type 0
ShownFits = (kind : Kind) (body : Body) → is_lawful kind ≡ true → IsBodyOf kind body → faults kind (shown kind body []) [] ≡ []

abbrev pub FlatOfShown : Type 0
FlatOfShown = (kind : Kind) (body : Body) → is_lawful kind ≡ true → IsBodyOf kind body → IsRooted body → flat kind (shown kind body []) ≡ body

-- the value without an empty `metadata`
abbrev pub without_empty : Json → Json
without_empty (object ms) = object (without_empty_metadata ms)
without_empty v = v

abbrev pub ShownOfFlat : Type 0
ShownOfFlat = (kind : Kind) (v : Json) → is_lawful kind ≡ true → has_rising_names v ≡ true → faults kind v [] ≡ [] → shown kind (flat kind v) [] ≡ without_empty v

-- two fitting values have one body only where they are equal, or differ by an empty `metadata` against none
abbrev pub FlatTellsValue : Type 0
FlatTellsValue =
    (kind : Kind) (v w : Json) → is_lawful kind ≡ true → has_rising_names v ≡ true → has_rising_names w ≡ true
    → faults kind v [] ≡ [] → faults kind w [] ≡ [] → flat kind v ≡ flat kind w → without_empty v ≡ without_empty w
