-- The order of elements' texts, part by part.
use Rattle.std.specs.Prelude.{◌≡◌, ◌≤◌, ℕ, List, [], ◌∷◌, ◌++◌, length, take, Option, Some, None}
use Rattle.ssa_model.specs.definitions.Json.{escaped_byte, quoted, scalar_text}
use Rattle.ssa_path.specs.Keys.{Members}

abbrev pub first : List ℕ → Option ℕ
first [] = None
first (b ∷ bs) = Some b

-- a byte of a text in quotes, or the closing quote behind its last
abbrev pub mark : Option ℕ → List ℕ
mark None = 34 ∷ []
mark (Some b) = escaped_byte b

-- what stands between a member and those behind it in an object
abbrev pub key_end : Members → List ℕ
key_end [] = 125 ∷ []
key_end (m ∷ ms) = 44 ∷ []

-- the first member of an object, with what stands behind it
abbrev pub member_text : Members → List ℕ
member_text [] = []
member_text (m ∷ ms) = quoted m.0 ++ 58 ∷ (scalar_text m.1 ++ key_end ms)

-- so many bytes of both texts are the same
pub record BeginAlike (text other : List ℕ) (n : ℕ) : Type 0 where
  pub own : n ≤ length text
  pub others : n ≤ length other
  pub same : take n text ≡ take n other
