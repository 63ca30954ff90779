-- What is written of a line that tells how a call ends.
use Rattle.std.specs.Prelude.{◌≡◌, ◌⊎◌, Bool, true, Option}
use Rattle.std.specs.Io.KnownBytes.{Appends}
use Rattle.ssa_model.specs.definitions.Json.{Text}
use Rattle.ssa_json.specs.Devices.{AppendsPart}

module _ {S : Type 0} (contents : S → Option Text) (has_failed : S → Bool) where
  -- a beginning of the text was written, and the device has failed
  pub record IsCut (old new : S) (text : Text) : Type 0 where
    pub failed : has_failed new ≡ true
    pub part : AppendsPart (contents old) (contents new) text

  -- all of the text was written, or the device has failed
  abbrev pub IsTold : S → S → Text → Type 0
  IsTold old new text = Appends (contents old) (contents new) text ⊎ IsCut old new text

  -- Nothing was written, or lines of which nothing is said: all of them, or the device has failed.
  abbrev pub IsNoted : S → S → Type 0
  IsNoted old new = (new ≡ old) ⊎ ((lines : Text) × IsTold old new lines)
