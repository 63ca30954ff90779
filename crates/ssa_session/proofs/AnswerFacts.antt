-- Laws of the answers to lines.
use Rattle.std.proofs.Common.{◌≡◌, ℕ, ◌<◌, List, [], ◌∷◌, ◌++◌, length, inl, inr, refl, lt-ltb}
use Rattle.ssa_model.specs.definitions.Limits.{most_line_bytes}
use Rattle.ssa_model.specs.definitions.Session.{too_long_text, out_of_memory_text}
use Rattle.ssa_session.specs.Session.{AnswersLine}

module _ {M : Type 0} (reply : M → List ℕ → List ℕ) (after : M → List ℕ → M) where
  -- a line over the limit is answered so, and changes nothing
  pub AnswersLine-too_long : (m : M) (line : List ℕ) (Writes : List ℕ → Type 0) → most_line_bytes < length line → Writes (too_long_text ++ 10 ∷ [])
      → AnswersLine reply after m m line Writes
  AnswersLine-too_long m line Writes over writes = record {
    text = too_long_text;
    answer = inl (rw (lt-ltb most_line_bytes (length line) over) refl, rw (lt-ltb most_line_bytes (length line) over) refl);
    writes = writes;
  }

  -- a line for which there is no memory is answered so, and changes nothing
  pub AnswersLine-refused : (old new : M) (line : List ℕ) (Writes : List ℕ → Type 0) → new ≡ old → Writes (out_of_memory_text ++ 10 ∷ [])
      → AnswersLine reply after old new line Writes
  AnswersLine-refused old new line Writes same writes = record { text = out_of_memory_text; answer = inr (refl, same); writes = writes }
