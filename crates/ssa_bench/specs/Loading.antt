-- What loading a bench answers.
use Rattle.std.specs.Prelude.{◌≡◌, ℕ, List, [], Option, Some, None, Result, Ok, Err}
use Rattle.ssa_model.specs.definitions.BenchText.{Format}
use Rattle.ssa_model.specs.definitions.Formats.{IsFile}
use Rattle.ssa_model.specs.definitions.Json.{Json}
use Rattle.ssa_model.specs.definitions.History.{Bench}
use Rattle.ssa_model.specs.definitions.BenchOfFile as formats
use Rattle.ssa_model.specs.definitions.BenchOfFile.{file_head}
use Rattle.ssa_model.specs.definitions.BenchFaults.{file_fault, MoveFault, no_move_text, record_does_not_fit}
use Rattle.ssa_model.specs.definitions.NextLines.{at_end, next_value}
use Rattle.ssa_model.specs.laws.LineByLine.{Move, Reader, along, ended_with, steps_from, with_part, with_value}
use Rattle.ssa_json.specs.Readings.{readings}
use Rattle.ssa_file.specs.Heads.{head_view}
use Rattle.ssa_file.specs.declared.head.FileHead.{FileHead}
use Rattle.ssa_lines.specs.Loading.{IsNextLine}
use Rattle.ssa_lines.specs.declared.loading.FileLine.{FileLine}
use Rattle.ssa_lines.specs.declared.loading.LoadFault.{LoadFault}
use Rattle.ssa_lines.specs.declared.loading.LoadFault.TheVariants.{BenchText, RecordDoesNotFit, Io, OutOfMemory}

-- ---- parts of the file

-- What is read of bytes is refused with this fault; of want of memory and of a failed device nothing is said.
abbrev pub ReadRefuses : {X : Type 0} → LoadFault → Result X MoveFault → Type 0
ReadRefuses BenchText r = r ≡ Err no_move_text
ReadRefuses RecordDoesNotFit r = r ≡ Err record_does_not_fit
ReadRefuses Io r = Unit {0}
ReadRefuses OutOfMemory r = Unit {0}

-- Of bytes that the source tells: the line that stands next, or that none does, whatever is to be read of it.
abbrev pub ReadsLine : Option (List ℕ) → Option (List ℕ) → ℕ → ℕ → Result FileLine LoadFault → Type 0
ReadsLine None after room room_after r = Unit {0}
ReadsLine (Some xs) after room room_after (Ok l) = IsNextLine xs after room room_after l
ReadsLine (Some xs) after room room_after (Err f) = (go : Json → Reader) → ReadRefuses f (with_value readings go xs room)

-- a part is taken of the line that stands next, and reading goes on behind it
pub record IsPart {X : Type 0} (take : Json → Option X) (xs : List ℕ) (after : Option (List ℕ)) (room room_after : ℕ) (x : X) : Type 0 where
  pub rest : List ℕ
  pub left : after ≡ Some rest
  pub goes_on : (go : X → Reader) → with_part readings take go xs room ≡ go x rest room_after

abbrev pub ReadsPart : {X : Type 0} → (Json → Option X) → Option (List ℕ) → Option (List ℕ) → ℕ → ℕ → Result X LoadFault → Type 0
ReadsPart take None after room room_after r = Unit {0}
ReadsPart take (Some xs) after room room_after (Ok x) = IsPart take xs after room room_after x
ReadsPart {X = X} take (Some xs) after room room_after (Err f) = (go : X → Reader) → ReadRefuses f (with_part readings take go xs room)

-- the head is taken of the first line
abbrev pub ReadsHead : Option (List ℕ) → Option (List ℕ) → ℕ → ℕ → Result FileHead LoadFault → Type 0
ReadsHead before after room room_after (Ok h) = ReadsPart file_head before after room room_after (Ok (head_view h))
ReadsHead before after room room_after (Err f) = ReadsPart {X = formats.FileHead} file_head before after room room_after (Err f)

-- ---- lines along which a bench goes

-- how so many lines are read from a bench on, and then what stands behind them
abbrev pub Walk : Type 0
Walk = (Bench → Reader) → ℕ → Bench → Reader

-- the lines are read, the bench goes their way, and reading goes on behind them
pub record HasGone (walk : Walk) (count : ℕ) (xs : List ℕ) (after : Option (List ℕ)) (room room_after : ℕ) (old new : Bench) : Type 0 where
  pub rest : List ℕ
  pub left : after ≡ Some rest
  pub goes_on : (go : Bench → Reader) → walk go count old xs room ≡ go new rest room_after

abbrev pub ReadsAlong : Walk → ℕ → Option (List ℕ) → Option (List ℕ) → ℕ → ℕ → Bench → Bench → Result (Unit {0}) LoadFault → Type 0
ReadsAlong walk count None after room room_after old new r = Unit {0}
ReadsAlong walk count (Some xs) after room room_after old new (Ok u) = HasGone walk count xs after room room_after old new
ReadsAlong walk count (Some xs) after room room_after old new (Err f) = (go : Bench → Reader) → ReadRefuses f (walk go count old xs room)

-- the lines of moves in a format
abbrev pub ReadsMoves : Format → Move → ℕ → Option (List ℕ) → Option (List ℕ) → ℕ → ℕ → Bench → Bench → Result (Unit {0}) LoadFault → Type 0
ReadsMoves f move = ReadsAlong (along readings f move)

-- the lines of later states
abbrev pub ReadsSteps : ℕ → Option (List ℕ) → Option (List ℕ) → ℕ → ℕ → Bench → Bench → Result (Unit {0}) LoadFault → Type 0
ReadsSteps = ReadsAlong (steps_from readings)

-- nothing stands behind
abbrev pub ReadsEnd : Option (List ℕ) → Option (List ℕ) → ℕ → Result (Unit {0}) LoadFault → Type 0
ReadsEnd None after room r = Unit {0}
ReadsEnd (Some xs) after room (Ok u) = (next_value readings room xs ≡ at_end) × (after ≡ Some [])
ReadsEnd (Some xs) after room (Err f) = (b : Bench) → ReadRefuses f (ended_with readings b xs room)

-- all bytes are read, and give this bench
abbrev pub ReadsAll : Reader → Option (List ℕ) → Option (List ℕ) → ℕ → Result Bench LoadFault → Type 0
ReadsAll reader None after room r = Unit {0}
ReadsAll reader (Some xs) after room (Ok bench) = (reader xs room ≡ Ok bench) × (after ≡ Some [])
ReadsAll reader (Some xs) after room (Err f) = ReadRefuses f (reader xs room)

-- and the bench becomes this one
abbrev pub ReadsOn : Reader → Option (List ℕ) → Option (List ℕ) → ℕ → Bench → Result (Unit {0}) LoadFault → Type 0
ReadsOn reader before after room new (Ok u) = ReadsAll reader before after room (Ok new)
ReadsOn reader before after room new (Err f) = ReadsAll reader before after room (Err f)

-- ---- the bench

-- the bytes are the file of the bench, in one of the formats, and were taken to their end
pub record IsLoaded (xs : List ℕ) (after : Option (List ℕ)) (bench : Bench) : Type 0 where
  pub format : Format
  pub file : IsFile readings format xs bench
  pub left : after ≡ Some []

-- the bytes are no bench's file in any format, and this is the fault of their first line that has one
pub record IsRefused (xs : List ℕ) (f : MoveFault) : Type 0 where
  pub none : (format : Format) (bench : Bench) → IsFile readings format xs bench → ⊥
  pub fault : file_fault readings xs ≡ f

-- Of bytes that the source tells: the bench of which they are the file, or that they are none's, and why.
abbrev pub Loads : Option (List ℕ) → Option (List ℕ) → Result Bench LoadFault → Type 0
Loads None after r = Unit {0}
Loads (Some xs) after (Ok bench) = IsLoaded xs after bench
Loads (Some xs) after (Err BenchText) = IsRefused xs no_move_text
Loads (Some xs) after (Err RecordDoesNotFit) = IsRefused xs record_does_not_fit
Loads (Some xs) after (Err f) = Unit {0}
