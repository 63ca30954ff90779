-- What is held of a line while it is read.
use Rattle.std.specs.Prelude.{◌≡◌, ℕ, ◌<◌, ◌≤◌, List, length}
use Rattle.ssa_lines.specs.declared.line.Line.{Line}
use Rattle.ssa_lines.specs.declared.line.Line.TheVariants.{Kept, TooLong, OutOfMemory}

-- the line holds the text of at most so many bytes, or says why it does not
abbrev pub Holds : ℕ → Line → List ℕ → Type 0
Holds most (Kept bytes) text = (bytes.items ≡ text) × (length text ≤ most)
Holds most TooLong text = most < length text
Holds most OutOfMemory text = 0 < length text
