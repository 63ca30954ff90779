-- What reading a line does to the line that is held and to the bytes that a source has left.
use Rattle.std.specs.Prelude.{ℕ, List, [], ◌∷◌, ◌++◌, Option, Some, None, Result, Ok, Err}
use Rattle.std.specs.Io.KnownBytes.{Consumes}
use Rattle.ssa_lines.specs.declared.line.Line.{Line}
use Rattle.ssa_lines.specs.declared.read_line.LineEnd.{LineEnd}
use Rattle.ssa_lines.specs.declared.read_line.LineEnd.TheVariants.{LineFeed, EndOfInput}
use Rattle.ssa_model.specs.definitions.Lines.{line_feed, HasNoLineFeed}
use Rattle.ssa_lines.specs.Held.{Holds}

-- what stands after a line's text
abbrev pub end_bytes : LineEnd → List ℕ
end_bytes LineFeed = line_feed ∷ []
end_bytes EndOfInput = []

abbrev pub read_end_bytes : {E : Type 0} → Result LineEnd E → List ℕ
read_end_bytes (Ok end) = end_bytes end
read_end_bytes (Err fault) = []

abbrev pub piece_end_bytes : {E : Type 0} → Result (Option LineEnd) E → List ℕ
piece_end_bytes (Ok (Some end)) = end_bytes end
piece_end_bytes (Ok None) = []
piece_end_bytes (Err fault) = []

-- the line is longer by the piece
abbrev pub Adds : ℕ → Line → Line → List ℕ → Type 0
Adds most old new piece = (text : List ℕ) → Holds most old text → Holds most new (text ++ piece)

-- a piece of a line with no line feed, and what ends it, were taken
pub record TakesPiece (most : ℕ) (left left_after : Option (List ℕ)) (old new : Line) (end : List ℕ) : Type 0 where
  pub piece : List ℕ
  pub plain : HasNoLineFeed piece
  pub adds : Adds most old new piece
  pub taken : Consumes left left_after (piece ++ end)

-- a line's text with no line feed, and what ends it, were taken, and the line holds the text where it has at most so many bytes
pub record TakesLine (most : ℕ) (left left_after : Option (List ℕ)) (new : Line) (end : List ℕ) : Type 0 where
  pub text : List ℕ
  pub plain : HasNoLineFeed text
  pub held : Holds most new text
  pub taken : Consumes left left_after (text ++ end)
