-- The answer to a line of a session: its reply's text, and the bench after it.
use Rattle.std.specs.Prelude.{List, [], ◌∷◌, ◌++◌, Bool, true, Some, None, Result, Ok, Err, if◌then◌else◌, nat_lt, length}
use Rattle.ssa_model.specs.definitions.Json.{Text, Json, compact, same_text}
use Rattle.ssa_model.specs.definitions.Limits.{most_line_bytes}
use Rattle.ssa_model.specs.definitions.Path.{Path}
use Rattle.ssa_model.specs.definitions.ElementTexts.{ElementFault, path_of}
use Rattle.ssa_model.specs.definitions.Readings.{ReadFault, Readings}
use Rattle.ssa_model.specs.definitions.History.{Bench}
use Rattle.ssa_model.specs.definitions.Commands as given
use Rattle.ssa_model.specs.definitions.Commands.{command_of, moment_of}
use Rattle.ssa_model.specs.definitions.Answers as answers
use Rattle.ssa_model.specs.definitions.Answers.{Command, answer}
use Rattle.ssa_model.specs.definitions.Faults as code
use Rattle.ssa_model.specs.definitions.Faults.{Code, read_fault_code, element_fault_code}
use Rattle.ssa_model.specs.definitions.Replies.{fault_json, reply_text}

-- ---- faults of a line

pub data LineFault : Type 0 where
  unread : ReadFault → LineFault
  bad_moment : LineFault
  command_shape : LineFault
  of_element : ElementFault → LineFault

abbrev pub line_fault_code : LineFault → Code
line_fault_code (unread f) = read_fault_code f
line_fault_code bad_moment = code.bad_moment
line_fault_code command_shape = code.command_shape
line_fault_code (of_element f) = element_fault_code f

-- the reply to a line over the limit
abbrev pub too_long_text : Text
too_long_text = compact (fault_json code.too_long)

-- the reply to a line for which there was no memory, and which counts as not given
abbrev pub out_of_memory_text : Text
out_of_memory_text = compact (fault_json code.out_of_memory)

-- ---- the answer to a line

abbrev pub owners_command : Result Path ElementFault → Result Command LineFault
owners_command (Ok p) = Ok (answers.owners p)
owners_command (Err f) = Err (of_element f)

module _ (readings : Readings) where
  -- the moment is one, or there is none
  abbrev pub has_moment : given.Command → Bool
  has_moment c = elim (moment_of c) [ None ↦ true | Some t ↦ readings.moment t ]

  abbrev pub with_path : given.Command → Result Command LineFault
  with_path (given.apply who force at v) = Ok (answers.apply who force at v)
  with_path (given.update who at v) = Ok (answers.update who at v)
  with_path given.strip = Ok answers.strip
  with_path given.undo = Ok answers.undo
  with_path given.redo = Ok answers.redo
  with_path (given.show managed) = Ok (answers.show managed)
  with_path (given.owners ts) = owners_command (path_of readings.value ts)
  with_path given.log = Ok answers.log

  -- the command of a value, or the first fault
  abbrev pub read_command : Json → Result Command LineFault
  read_command v = elim (command_of v) [ None ↦ Err command_shape | Some c ↦ (if has_moment c then with_path c else Err bad_moment) ]

  abbrev pub read_line : Text → Result Command LineFault
  read_line line = elim (readings.value line) [ Ok v ↦ read_command v | Err f ↦ Err (unread f) ]

  -- the reply's text and the next bench
  abbrev pub answer_read : Bench → Result Command LineFault → Text × Bench
  answer_read bench (Ok c) = (reply_text (answer bench c).0, (answer bench c).1)
  answer_read bench (Err f) = (compact (fault_json (line_fault_code f)), bench)

  abbrev pub line_answer : Bench → Text → Text × Bench
  line_answer bench line = answer_read bench (read_line line)

  -- the command that a line gives, where it is one
  abbrev pub command_in : Text → List Command
  command_in line = if nat_lt most_line_bytes (length line) then [] else elim (read_line line) [ Ok c ↦ c ∷ [] | Err f ↦ [] ]

  -- the commands that lines with these replies give, in order: a line that is answered by want of memory gives none
  abbrev pub given_commands : List Text → List Text → List Command
  given_commands [] texts = []
  given_commands (line ∷ lines) [] = []
  given_commands (line ∷ lines) (text ∷ texts) = (if same_text text out_of_memory_text then [] else command_in line) ++ given_commands lines texts
