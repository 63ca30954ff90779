-- The lines of some bytes. A line ends at a line feed; bytes after the last line feed are a line too where there are any.
use Rattle.std.specs.Prelude.{◌≢◌, ℕ, List, [], ◌∷◌, ◌++◌, ◌==◌, if◌then◌else◌, flat_map}

abbrev pub line_feed : ℕ
line_feed = 10

-- the byte stands in front of the first line, or of the rest where there is no line
abbrev pub with_first : ℕ → List (List ℕ) → List ℕ → List (List ℕ) × List ℕ
with_first x [] rest = ([], x ∷ rest)
with_first x (line ∷ lines) rest = ((x ∷ line) ∷ lines, rest)

-- the lines that a line feed ends, and the bytes after the last line feed
unfoldable pub split_lines : List ℕ → List (List ℕ) × List ℕ
split_lines [] = ([], [])
split_lines (x ∷ xs) =
    if x == line_feed then ([] ∷ (split_lines xs).0, (split_lines xs).1) else with_first x (split_lines xs).0 (split_lines xs).1

abbrev pub whole_lines : List ℕ → List (List ℕ)
whole_lines bytes = (split_lines bytes).0

abbrev pub unfinished_line : List ℕ → List ℕ
unfinished_line bytes = (split_lines bytes).1

-- none where the rest is empty
abbrev pub last_line : List ℕ → List (List ℕ)
last_line [] = []
last_line (x ∷ xs) = (x ∷ xs) ∷ []

abbrev pub lines : List ℕ → List (List ℕ)
lines bytes = whole_lines bytes ++ last_line (unfinished_line bytes)

-- each text, ended by a line feed
abbrev pub ended : List (List ℕ) → List ℕ
ended = flat_map (λ text. text ++ line_feed ∷ [])

abbrev pub HasNoLineFeed : List ℕ → Type 0
HasNoLineFeed [] = Unit {0}
HasNoLineFeed (x ∷ xs) = (x ≢ line_feed) × HasNoLineFeed xs
