-- What stands next in a bench file that is read line by line: the value of its next line, what stands behind it, and how much room is left.
use Rattle.std.specs.Prelude.{ℕ, ◌+◌, ◌-◌, List, [], ◌∷◌, length, drop, Some, None}
use Rattle.ssa_model.specs.definitions.Json.{Text, Json}
use Rattle.ssa_model.specs.definitions.Lines.{whole_lines}
use Rattle.ssa_model.specs.definitions.Readings.{Readings}
use Rattle.ssa_model.specs.definitions.BenchOfStates.{spelled_value}
use Rattle.ssa_model.specs.definitions.BenchFaults.{lines_within}

-- nothing, no value's line within the room, or a value, with the bytes and the room behind its line
pub data Next : Type 0 where
  at_end : Next
  no_value : Next
  value_then : Json → List ℕ → ℕ → Next

module _ (readings : Readings) where
  abbrev pub first_value : List ℕ → ℕ → List Text → Next
  first_value xs room [] = no_value
  first_value xs room (t ∷ ts) = elim (spelled_value readings t) [ Some v ↦ value_then v (drop (length t + 1) xs) (room - (length t + 1)) | None ↦ no_value ]

  abbrev pub next_value : ℕ → List ℕ → Next
  next_value room [] = at_end
  next_value room (x ∷ xs) = first_value (x ∷ xs) room (lines_within room (whole_lines (x ∷ xs)))
