-- The body that a record leads to, as it is told.
use Rattle.std.specs.Prelude.{◌≡◌, [], true, Option, Some, None}
use Rattle.ssa_model.specs.definitions.Json.{Json}
use Rattle.ssa_model.specs.definitions.Body.{Body}
use Rattle.ssa_model.specs.definitions.Kind.{Kind}
use Rattle.ssa_model.specs.definitions.Lawful.{is_ordered}
use Rattle.ssa_model.specs.definitions.Objects.{shown}
use Rattle.ssa_model.specs.definitions.Record.{BodyRecord}
use Rattle.ssa_model.specs.definitions.Takes.{BodyTakes}
use Rattle.ssa_model.specs.definitions.Valid.{IsValidBody}
use Rattle.ssa_json.specs.declared.value.Json as program
use Rattle.ssa_turn_body.specs.Records.{body_told}
use Rattle.ssa_turn_body.specs.declared.steps.BodySteps.{BodySteps}
use Rattle.ssa_record.specs.LedValues.{IsGiven}
use Rattle.ssa_record.specs.Places.{maps_told, ToldMaps}
use Rattle.ssa_told.specs.Told.{told_of}

-- where a record is told that takes the body to another one, the value is that of the other
abbrev pub IsShown : ToldMaps → Body → Option program.Json → Type 0
IsShown m v o = (kind : Kind) (d : BodyRecord) (w : Body) → is_ordered kind ≡ true → BodyTakes kind d v w → m ≡ maps_told (told_of kind d)
    → IsGiven o (shown kind w [])

-- there is a body, and it is this one
abbrev pub IsThis : Option Body → Body → Type 0
IsThis None w = ⊥
IsThis (Some b) w = b ≡ w

-- the value of a valid body is read as the body
abbrev pub IsRead : Kind → Json → Option Body → Type 0
IsRead kind v o = (w : Body) → IsValidBody kind w → v ≡ shown kind w [] → IsThis o w

-- there are changes, and they say the record
abbrev pub IsSaid : Option BodySteps → BodyRecord → Type 0
IsSaid None d = ⊥
IsSaid (Some s) d = body_told s ≡ d
