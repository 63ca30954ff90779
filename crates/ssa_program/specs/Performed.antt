-- What a call of the program has done: its outcome, its line told and its status; or where it stopped, and what is told of that.
use Rattle.std.specs.Prelude.{◌≡◌, ◌++◌, ◌∷◌, [], ◌⊎◌, ℕ, Bool, true, Option}
use Rattle.ssa_model.specs.definitions.Json.{Text}
use Rattle.ssa_model.specs.definitions.Lines.{line_feed}
use Rattle.ssa_model.specs.definitions.Session.{out_of_memory_text}
use Rattle.ssa_disk.specs.Files.{Files}
use Rattle.ssa_words.specs.declared.call.Call.{Call}
use Rattle.ssa_program.specs.Done.{IsDone, IsNamedBy, IsStopped}
use Rattle.ssa_program.specs.Status.{status_code}
use Rattle.ssa_program.specs.Telling.{IsNoted, IsTold}
use Rattle.ssa_program.specs.Trouble.{EndsBy, Tells}
use Rattle.ssa_program.specs.Watching.{IsBegun}
use Rattle.ssa_program.specs.declared.status.Status.{Status}
use Rattle.ssa_program.specs.declared.trouble.Trouble.{Trouble}

-- The files before and after, the device where the replies stand, that for people, what is left of the input, and whether its device has failed.
module _ (old new : Files) {W E : Type 0} (contents : W → Option Text) (has_failed : W → Bool) (writer writer_new : W)
    (told : E → Option Text) (is_deaf : E → Bool) (errors errors_new : E) (left left_after : Option Text) (ReaderFailed : Type 0) where
  -- the call came to its outcome; for people there are notes, behind what a session told them while it lasted
  pub record CameToEnd (call : Call) (code : ℕ) : Type 0 where
    pub errors_begun : E
    pub begun : IsBegun told is_deaf errors errors_begun call
    pub status : Status
    pub done : IsDone old new contents has_failed writer writer_new left left_after ReaderFailed call status
    pub code_is : code ≡ status_code status
    pub noted : IsNoted told is_deaf errors_begun errors_new

  -- it stopped with the first device as it stood then, a trouble is told, and for people there are notes behind it
  pub record HasStopped (call : Call) (code : ℕ) : Type 0 where
    pub trouble : Trouble
    pub writer_then : W
    pub stopped : IsStopped old new contents has_failed writer writer_then left left_after ReaderFailed call trouble
    pub named : IsNamedBy call trouble
    pub errors_begun : E
    pub begun : IsBegun told is_deaf errors errors_begun call
    pub errors_then : E
    pub tells : Tells
        (λ line. IsTold contents has_failed writer_then writer_new (line ++ line_feed ∷ []) × (errors_then ≡ errors_begun))
        (λ line. IsTold told is_deaf errors_begun errors_then (line ++ line_feed ∷ []) × (writer_new ≡ writer_then))
        ((writer_new ≡ writer_then) × (errors_then ≡ errors_begun)) trouble
    pub status : Status
    pub ends : EndsBy (has_failed writer_new ≡ true)
        (IsTold contents has_failed writer_then writer_new (out_of_memory_text ++ line_feed ∷ [])) trouble status
    pub code_is : code ≡ status_code status
    pub noted : IsNoted told is_deaf errors_then errors_new

  abbrev pub IsPerformed : Call → ℕ → Type 0
  IsPerformed call code = CameToEnd call code ⊎ HasStopped call code
