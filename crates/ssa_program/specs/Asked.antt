-- How a subcommand is answered: whether it is accepted, and whether the bench's file has to be written for it.
use Rattle.std.specs.Prelude.{Bool, false, ◌&&◌, Ok, Err}
use Rattle.ssa_model.specs.definitions.History as model
use Rattle.ssa_model.specs.definitions.Answers.{answer}
use Rattle.ssa_model.specs.definitions.Subcommands as subcommands
use Rattle.ssa_model.specs.definitions.Subcommands.{asked_command, is_accepted, is_change}
use Rattle.ssa_json.specs.Readings.{readings}

-- the subcommand is a command that the bench accepts
abbrev pub is_asked_accepted : model.Bench → subcommands.Asked → Bool
is_asked_accepted bench asked = elim (asked_command readings asked) [ Ok c ↦ is_accepted (answer bench c).0 | Err f ↦ false ]

-- it is one that is kept in the bench's file
abbrev pub is_asked_change : model.Bench → subcommands.Asked → Bool
is_asked_change bench asked = elim (asked_command readings asked) [ Ok c ↦ is_accepted (answer bench c).0 && is_change c | Err f ↦ false ]
