-- Labels whose moments are moments.
use Rattle.std.specs.Prelude.{◌≡◌, Bool, true}
use Rattle.ssa_model.specs.definitions.History.{Label, applied, updated, stripped, Step}
use Rattle.ssa_json.specs.Readings.{readings}

abbrev pub is_dated : Label → Bool
is_dated (applied who force at) = readings.moment at
is_dated (updated who at) = readings.moment at
is_dated stripped = true

abbrev pub MakesDated : Step → Type 0
MakesDated s = is_dated s.label ≡ true
