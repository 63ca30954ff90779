-- FieldsV1: a set has at most one writing in which names rise, and the set that is read from a value has just the paths that the value says.
use Rattle.std.specs.Prelude.{◌≡◌, ◌≢◌, [], ◌∷◌, true, false, codes, Result}
use Rattle.ssa_model.specs.definitions.Json.{Text, Json, object, no_members, member}
use Rattle.ssa_model.specs.definitions.Path.{field, Path}
use Rattle.ssa_model.specs.definitions.PathMap.{PathSet, has, listed}
use Rattle.ssa_model.specs.definitions.FieldsV1.{says, IsCanonical, IsWritten, fields_faults, said_set}
use Rattle.ssa_model.specs.definitions.MemberNames.{has_rising_names, has_distinct_names}
use Rattle.ssa_model.specs.examples.Sample.{replicas_path}
use Rattle.ssa_model.specs.examples.Rows.{written}
use Rattle.ssa_model.specs.definitions.Readings.{ReadFault}

-- Two canonical values that say the same paths are one value, where the members of each object stand in the order of their names.
abbrev pub OneWriting : Type 0
OneWriting = (v w : Json) → IsCanonical v → IsCanonical w → has_rising_names v ≡ true → has_rising_names w ≡ true → ((p : Path) → says v p ≡ says w p) → v ≡ w

-- Two writings of a set are one.
abbrev pub SetHasOneWriting : Type 0
SetHasOneWriting = (s : PathSet) (v w : Json) → IsWritten s v → IsWritten s w → has_rising_names v ≡ true → has_rising_names w ≡ true → v ≡ w

-- `{"f:spec":{".":{},"f:replicas":{}}}` is the writing of the set of the two paths, and its names rise
abbrev pub WritingIsMet : Type 0
WritingIsMet = IsWritten (listed ((field (codes "spec") ∷ []) ∷ replicas_path ∷ [])) written × (has_rising_names written ≡ true)

abbrev pub two_fields : Text → Text → Json
two_fields a b = object (member a (object no_members) (member b (object no_members) no_members))

-- names out of order make a second value that says the same: `{"f:a":{},"f:b":{}}` and `{"f:b":{},"f:a":{}}`
abbrev pub OrderTells : Type 0
OrderTells =
    let v = two_fields (codes "f:a") (codes "f:b") in
    let w = two_fields (codes "f:b") (codes "f:a") in
    IsCanonical v × IsCanonical w × ((p : Path) → says v p ≡ says w p) × (v ≢ w) × (has_rising_names w ≡ false)

-- The set has just the paths that the value says. Where an object named a member twice, a path would lead to the first of the
-- two alone.
abbrev pub SaidSetSays : Type 0
SaidSetSays = (reading : Text → Result Json ReadFault) (v : Json) (p : Path) → has_distinct_names v ≡ true → fields_faults reading v ≡ []
    → says v p ≡ has (said_set reading v) p
