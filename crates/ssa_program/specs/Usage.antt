-- What is told of words that are no call.
use Rattle.std.specs.Prelude.{◌≡◌, [], ◌∷◌, ◌++◌, ◌⊎◌, string_bytes}
use Rattle.ssa_model.specs.definitions.Json.{Text}
use Rattle.ssa_model.specs.definitions.Lines.{line_feed}
use Rattle.ssa_model.specs.definitions.Session.{out_of_memory_text}
use Rattle.ssa_words.specs.declared.usage.Usage as words
use Rattle.ssa_words.specs.declared.usage.Usage.TheVariants.{Asked, Refused, OutOfMemory}
use Rattle.ssa_program.specs.declared.status.Status.{Status}
use Rattle.ssa_program.specs.declared.status.Status.TheVariants.{Done, Usage, Broken}

-- the text that was asked for stands where the replies do, and a mistake is told to a person
module _ (Replies Person : Text → Type 0) where
  abbrev pub TellsUsage : words.Usage → Type 0
  TellsUsage (Asked text) = Replies (string_bytes text)
  TellsUsage (Refused text) = Person (string_bytes text)
  TellsUsage OutOfMemory = Replies (out_of_memory_text ++ line_feed ∷ [])

-- help that is not all printed ends the program as a break, where the device has failed
abbrev pub EndsByUsage : Type 0 → words.Usage → Status → Type 0
EndsByUsage Failed (Asked text) s = (s ≡ Done) ⊎ ((s ≡ Broken) × Failed)
EndsByUsage Failed (Refused text) s = s ≡ Usage
EndsByUsage Failed OutOfMemory s = s ≡ Broken
