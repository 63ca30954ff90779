-- Names of files, as people are told them.
use Rattle.std.specs.Prelude.{ℕ, ◌-◌, ◌/◌, ◌%◌, [], ◌∷◌, ◌++◌, ◌||◌, ◌&&◌, ◌==◌, Bool, not, Some, None, if◌then◌else◌, nat_lt, slice_get, slice_index, codes}
use Rattle.ssa_model.specs.definitions.Json.{Text}

abbrev pub is_control : ℕ → Bool
is_control b = nat_lt b 32 || (b == 127)

abbrev pub is_within : ℕ → ℕ → ℕ → Bool
is_within least most b = not (nat_lt b least) && not (nat_lt most b)

-- U+0080 to U+009F, and U+061C, which turns the direction of a line: two bytes
abbrev pub is_hidden_pair : ℕ → ℕ → Bool
is_hidden_pair a b = ((a == 194) && is_within 128 159 b) || ((a == 216) && (b == 156))

-- the other characters that turn it: U+200E, U+200F, U+202A to U+202E and U+2066 to U+2069, three bytes
abbrev pub is_hidden_triple : ℕ → ℕ → ℕ → Bool
is_hidden_triple a b c = (a == 226) && (((b == 128) && (is_within 142 143 c || is_within 170 174 c)) || ((b == 129) && is_within 166 169 c))

-- the byte at a place, and 0 behind the end
abbrev pub byte_at : Text → ℕ → ℕ
byte_at bytes n = elim (slice_get bytes n) [ Some b ↦ b | None ↦ 0 ]

-- how many bytes the first character has, if it is a control character or one that turns the direction of a line, and else 0
abbrev pub hidden_length : Text → ℕ
hidden_length bytes =
    if is_control (byte_at bytes 0) then 1
    else if is_hidden_pair (byte_at bytes 0) (byte_at bytes 1) then 2
    else if is_hidden_triple (byte_at bytes 0) (byte_at bytes 1) (byte_at bytes 2) then 3
    else 0

abbrev pub hex_digit : ℕ → ℕ
hex_digit n = slice_index (codes "0123456789abcdef") n

-- a byte as `\xNN`
abbrev pub escaped_byte : ℕ → Text
escaped_byte b = codes "\\x" ++ hex_digit (b / 16) ∷ hex_digit (b % 16) ∷ []

-- how many of the bytes, from the first on, are to be escaped, where so many of those in front of them wanted more
abbrev pub hidden_from : ℕ → Text → ℕ
hidden_from left bytes = if left == 0 then hidden_length bytes else left

abbrev pub told_byte : ℕ → ℕ → Text
told_byte hidden b = if hidden == 0 then b ∷ [] else escaped_byte b

abbrev pub escaped_from : ℕ → Text → Text
escaped_from left [] = []
escaped_from left (b ∷ bs) = told_byte (hidden_from left (b ∷ bs)) b ++ escaped_from (hidden_from left (b ∷ bs) - 1) bs

-- the name, with each byte of a character that is not shown as it is as `\xNN`, so that it takes one line and is what it looks like
abbrev pub escaped : Text → Text
escaped name = escaped_from 0 name

-- what is told of the file of this name
abbrev pub named_line : Text → Text → Text → Text
named_line before name after = (before ++ escaped name) ++ after
