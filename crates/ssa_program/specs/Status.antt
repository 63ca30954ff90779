-- The numbers of the statuses, and which call ends by which.
use Rattle.std.specs.Prelude.{ℕ, Bool, true, false}
use Rattle.ssa_session.specs.declared.files.Ending.{Ending}
use Rattle.ssa_session.specs.declared.files.Ending.TheVariants as ending
use Rattle.ssa_program.specs.declared.status.Status.{Status}
use Rattle.ssa_program.specs.declared.status.Status.TheVariants.{Done, Refused, Usage, Broken}

abbrev pub status_code : Status → ℕ
status_code Done = 0
status_code Refused = 1
status_code Usage = 2
status_code Broken = 3

-- want of memory while a refused file is told ends the program as a break does
abbrev pub status_of : Ending → Status
status_of ending.Refused = Refused
status_of ending.OutOfMemory = Broken

-- a call that is answered is done where the command was accepted
abbrev pub status_for : Bool → Status
status_for true = Done
status_for false = Refused
