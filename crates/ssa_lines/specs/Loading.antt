-- What reading the lines of a bench file answers.
use Rattle.std.specs.Prelude.{◌≡◌, ℕ, List, [], Option, Some, None, Result, Ok, Err}
use Rattle.ssa_model.specs.definitions.Json.{Text, compact}
use Rattle.ssa_model.specs.definitions.Faults as code
use Rattle.ssa_model.specs.definitions.Faults.{Code}
use Rattle.ssa_model.specs.definitions.BenchOfStates.{spelled_value}
use Rattle.ssa_model.specs.definitions.NextLines.{at_end, no_value, value_then, next_value}
use Rattle.ssa_json.specs.Readings.{readings}
use Rattle.ssa_json.specs.View.{view}
use Rattle.ssa_lines.specs.declared.loading.FileLine.{FileLine}
use Rattle.ssa_lines.specs.declared.loading.LoadFault.{LoadFault}
use Rattle.ssa_lines.specs.declared.loading.LoadFault.TheVariants.{BenchText, RecordDoesNotFit, Io, OutOfMemory}

-- how the fault is told
abbrev pub load_code : LoadFault → Code
load_code BenchText = code.bench_text
load_code RecordDoesNotFit = code.record_does_not_fit
load_code Io = code.io
load_code OutOfMemory = code.out_of_memory

-- the text is the compact text of the line's value
pub record IsSpelledAs (l : FileLine) (text : Text) : Type 0 where
  pub same : l.text.items ≡ text
  pub spelled : spelled_value readings text ≡ Some (view l.value)
  pub compact_is : l.text.items ≡ compact (view l.value)

-- a value's line stands next, within the room, and these bytes follow it
pub record IsNextLine (xs : List ℕ) (after : Option (List ℕ)) (room room_after : ℕ) (l : FileLine) : Type 0 where
  pub rest : List ℕ
  pub left : after ≡ Some rest
  pub next : next_value readings room xs ≡ value_then (view l.value) rest room_after

-- Of bytes that the source tells: what stands next.
abbrev pub ReadsValue : Option (List ℕ) → Option (List ℕ) → ℕ → ℕ → Result (Option FileLine) LoadFault → Type 0
ReadsValue None after room room_after r = Unit {0}
ReadsValue (Some xs) after room room_after (Ok (Some l)) = IsNextLine xs after room room_after l
ReadsValue (Some xs) after room room_after (Ok None) = (next_value readings room xs ≡ at_end) × ((after ≡ Some []) × (room_after ≡ room))
ReadsValue (Some xs) after room room_after (Err BenchText) = next_value readings room xs ≡ no_value
ReadsValue (Some xs) after room room_after (Err RecordDoesNotFit) = ⊥
ReadsValue (Some xs) after room room_after (Err f) = Unit {0}
