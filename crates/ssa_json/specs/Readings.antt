-- Which bytes are JSON values, and which texts are moments.
use Rattle.ssa_model.specs.definitions.Readings.{Readings}
use Rattle.ssa_json.specs.Moment.{is_moment}
use Rattle.ssa_json.specs.Reading.{json_reading}

-- JSON text, and moments of the calendar
abbrev pub readings : Readings
readings = record { value = json_reading; moment = is_moment }
