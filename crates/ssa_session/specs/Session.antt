-- What a session answers: a reply for each line, in order, each ended by a line feed.
use Rattle.std.specs.Prelude.{◌≡◌, ℕ, List, [], ◌∷◌, ◌++◌, length, nat_lt, if◌then◌else◌, ◌⊎◌}
use Rattle.ssa_model.specs.definitions.Session.{out_of_memory_text, too_long_text}
use Rattle.ssa_model.specs.definitions.Limits.{most_line_bytes}

-- A machine of type M, which answers reply m line and goes on as after m line.
module _ {M : Type 0} (reply : M → List ℕ → List ℕ) (after : M → List ℕ → M) where
  -- The reply to a line and the machine after it. A line over the limit has a fixed reply, and is not shown to the machine.
  abbrev pub IsAnswer : M → List ℕ → List ℕ → M → Type 0
  IsAnswer old line text new =
      (text ≡ (if nat_lt most_line_bytes (length line) then too_long_text else reply old line))
      × (new ≡ (if nat_lt most_line_bytes (length line) then old else after old line))

  -- a line that counts as not given
  abbrev pub IsRefused : M → List ℕ → List ℕ → M → Type 0
  IsRefused old line text new = (text ≡ out_of_memory_text) × (new ≡ old)

  -- a line, its text and what is written for it
  pub record AnswersLine (old new : M) (line : List ℕ) (Writes : List ℕ → Type 0) : Type 0 where
    pub text : List ℕ
    pub answer : IsAnswer old line text new ⊎ IsRefused old line text new
    pub writes : Writes (text ++ 10 ∷ [])

  -- the replies to the lines, one after the other
  abbrev pub Replies : M → List (List ℕ) → List (List ℕ) → M → Type 0
  Replies old [] [] new = new ≡ old
  Replies old (line ∷ lines) (text ∷ texts) new = (mid : M) × (IsAnswer old line text mid ⊎ IsRefused old line text mid) × Replies mid lines texts new
  Replies old [] (text ∷ texts) new = ⊥
  Replies old (line ∷ lines) [] new = ⊥
