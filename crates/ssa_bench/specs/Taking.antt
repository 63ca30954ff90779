-- What is taken of the lines of a bench file, and how a refusal is told.
use Rattle.std.specs.Prelude.{◌≡◌, true, Option, Some, None, Result, Ok, Err}
use Rattle.ssa_model.specs.definitions.BenchText.{Format}
use Rattle.ssa_model.specs.definitions.Json.{Json}
use Rattle.ssa_model.specs.definitions.Operations as model
use Rattle.ssa_model.specs.definitions.History.{Bench, Label, present}
use Rattle.ssa_model.specs.definitions.Takes.{Takes}
use Rattle.ssa_model.specs.definitions.Valid.{is_named}
use Rattle.ssa_model.specs.definitions.History as history
use Rattle.ssa_model.specs.definitions.BenchOfStates.{given_if, said_label, step_in}
use Rattle.ssa_model.specs.definitions.BenchOfFile as formats
use Rattle.ssa_model.specs.definitions.BenchOfFile.{file_head}
use Rattle.ssa_model.specs.laws.LineByLine.{Move, moved_by, gone_on}
use Rattle.ssa_model.specs.definitions.BenchFaults.{is_label_shape, MoveFault, no_move_text, record_does_not_fit, told_value}
use Rattle.ssa_json.specs.Readings.{readings}
use Rattle.ssa_file.specs.declared.head.FileHead.{FileHead}
use Rattle.ssa_file.specs.Heads.{head_view}
use Rattle.ssa_lines.specs.declared.loading.LoadFault.{LoadFault}
use Rattle.ssa_lines.specs.declared.loading.LoadFault.TheVariants.{BenchText, RecordDoesNotFit, Io}
use Rattle.ssa_lines.specs.declared.loading.LoadFault.TheVariants as load
use Rattle.ssa_schema.specs.declared.fault.SchemaFault.{SchemaFault}
use Rattle.ssa_schema.specs.declared.fault.SchemaFault.TheVariants as schema
use Rattle.ssa_merge.specs.States.{state_view}
use Rattle.ssa_record.specs.declared.read_record.RecordAnswer.{RecordAnswer}
use Rattle.ssa_record.specs.declared.read_record.RecordAnswer.TheVariants.{NoRecord, Misfit, Fits}
use Rattle.ssa_turn.specs.Histories.{label_view}
use Rattle.ssa_turn.specs.declared.label.Label as labels
use Rattle.ssa_turn.specs.TablesBack.{HasTableBack}
use Rattle.ssa_turn_state.specs.States.{HasStateRoom, state_steps}
use Rattle.ssa_answers.specs.declared.fault.Fault.{Fault}
use Rattle.ssa_answers.specs.declared.fault.Fault.TheVariants.{OutOfMemory}
use Rattle.ssa_bench.specs.declared.state_taking.TakenStep.{TakenStep}
use Rattle.ssa_bench.specs.declared.taking.Step.{Step}

-- ---- refusals

-- an object that is refused is no bench's text
abbrev pub load_fault : Fault → LoadFault
load_fault OutOfMemory = load.OutOfMemory
load_fault _ = BenchText

-- nor is such a schema
abbrev pub of_schema_fault : SchemaFault → LoadFault
of_schema_fault schema.OutOfMemory = load.OutOfMemory
of_schema_fault _ = BenchText

-- What is given is there, or there is none; of want of memory nothing is said.
abbrev pub IsTaken : {X : Type 0} → Result X LoadFault → Option X → Type 0
IsTaken (Ok x) given = given ≡ Some x
IsTaken (Err BenchText) given = given ≡ None
IsTaken (Err RecordDoesNotFit) given = ⊥
IsTaken (Err Io) given = ⊥
IsTaken (Err load.OutOfMemory) given = Unit {0}

-- What is read is refused with this fault; of want of memory nothing is said, and a device has not failed.
abbrev pub Refuses : {X : Type 0} → LoadFault → Result X MoveFault → Type 0
Refuses BenchText r = r ≡ Err no_move_text
Refuses RecordDoesNotFit r = r ≡ Err record_does_not_fit
Refuses Io r = ⊥
Refuses load.OutOfMemory r = Unit {0}

-- ---- the head

-- the head of a first line's value
abbrev pub TakesHead : Result FileHead LoadFault → Json → Type 0
TakesHead (Ok h) v = IsTaken (Ok (head_view h)) (file_head v)
TakesHead (Err f) v = IsTaken {X = formats.FileHead} (Err f) (file_head v)

-- ---- the line of a later state

-- the step that a line tells
abbrev pub taken_view : TakenStep → history.Step
taken_view s = record { label = label_view s.label; state = state_view s.state }

-- the step of a value, after the present state
abbrev pub TakesStep : Bench → Result TakenStep LoadFault → Json → Type 0
TakesStep bench (Ok s) v = IsTaken (Ok (taken_view s)) (step_in readings bench (present bench.timeline) v)
TakesStep bench (Err f) v = IsTaken {X = history.Step} (Err f) (step_in readings bench (present bench.timeline) v)

-- the bench goes to that step
abbrev pub GoesOn : Bench → Bench → Result (Unit {0}) LoadFault → Json → Type 0
GoesOn old new (Ok u) v = (s : history.Step) × (step_in readings old (present old.timeline) v ≡ Some s) × (new ≡ gone_on old s)
GoesOn old new (Err f) v = IsTaken {X = history.Step} (Err f) (step_in readings old (present old.timeline) v)

-- ---- the line of a move

-- the label that a command's value is, where it is written as one
abbrev pub written_label : Json → Option Label
written_label v = given_if (is_label_shape readings v) (said_label v)

-- the step of a command and its record that was read, or why their line is refused
abbrev pub answered_step : labels.Label → RecordAnswer → Result Step LoadFault
answered_step label NoRecord = Err BenchText
answered_step label Misfit = Err RecordDoesNotFit
answered_step label (Fits d) = Ok (record { label = label; delta = d })

-- the command of a line of the format, and the record of the way from the present state, with room for it
pub record IsToldMove (f : Format) (bench : Bench) (s : Step) (v : Json) (w : model.State) : Type 0 where
  pub move : told_value readings f bench (present bench.timeline) v ≡ Ok (label_view s.label, w)
  pub takes : Takes bench.schema.kind (state_steps s.delta) (present bench.timeline) w
  pub room : HasStateRoom s.delta (present bench.timeline)
  pub back : HasTableBack w
  pub named : is_named (label_view s.label) ≡ true

-- a line tells such a move, or is refused
abbrev pub TellsMove : Format → Bench → Result Step LoadFault → Json → Type 0
TellsMove f bench (Ok s) v = (w : model.State) × IsToldMove f bench s v w
TellsMove f bench (Err e) v = Refuses e (told_value readings f bench (present bench.timeline) v)

-- the bench goes the way of a line's move, which changes its history so
abbrev pub MovesBy : Format → Move → Bench → Bench → Result (Unit {0}) LoadFault → Json → Type 0
MovesBy f move old new (Ok u) v = (m : Label × model.State) × (told_value readings f old (present old.timeline) v ≡ Ok m) × (new ≡ moved_by move old m)
MovesBy f move old new (Err e) v = Refuses e (told_value readings f old (present old.timeline) v)
