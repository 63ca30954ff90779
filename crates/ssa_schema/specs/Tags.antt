-- Numbers that rows have in common where they are one, and mostly only there.
use Rattle.std.specs.Prelude.{ℕ, ◌+◌, ◌-◌, ◌*◌, ◌%◌, ◌^◌, List, [], ◌∷◌, length, drop, nat_lt, unsigned_abs, if◌then◌else◌}
use Rattle.std.specs.Int.{w64, from_be_bytes, from_bool}
use Rattle.ssa_model.specs.definitions.Json.{Text, Scalar, text, whole, truth}

-- what is left of a number in 64 bits
abbrev pub in_64 : ℕ → ℕ
in_64 n = n % 2 ^ 64

-- a number times an odd one whose bits are mixed
abbrev pub spread : ℕ → ℕ
spread n = in_64 (n * 11400714819323198485)

-- the bytes of a short text as one number behind this one, the first the most significant
abbrev pub short_number : ℕ → Text → ℕ
short_number n [] = n
short_number n (b ∷ bs) = short_number (in_64 (in_64 (n * 256) + b)) bs

-- the last eight bytes as one number, or those there are
abbrev pub tail_number : Text → ℕ
tail_number bs = if nat_lt (length bs) 8 then short_number 0 bs else from_be_bytes w64 (drop (length bs - 8) bs)

abbrev pub text_tag : Text → ℕ
text_tag bs = in_64 (tail_number bs + spread (length bs))

abbrev pub scalar_tag : Scalar → ℕ
scalar_tag (text bs) = text_tag bs
scalar_tag (whole z) = unsigned_abs z
scalar_tag (truth b) = from_bool b

-- each scalar has a part in it; of a single one it is the scalar's
abbrev pub row_tag : List Scalar → ℕ
row_tag [] = 0
row_tag (s ∷ row) = in_64 (scalar_tag s + spread (row_tag row))
