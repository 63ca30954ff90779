-- What a value sends to a printer of serde's.
use Rattle.serde.specs.Event.{Log}
use Rattle.serde_json.specs.Events.{SendsValue}
use Rattle.ssa_model.specs.definitions.Json.{Json}
use Rattle.ssa_json.specs.Writable.{IsOfProgram}
use Rattle.ssa_json.specs.Written.{data_of}

-- the events of its data; and what each value of the program has
abbrev pub Sends : Json → Log → Log → Type 0
Sends v old new = SendsValue (data_of v) old new × IsOfProgram v
