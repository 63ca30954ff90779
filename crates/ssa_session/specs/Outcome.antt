-- What a session has read, answered and written at its end.
use Rattle.std.specs.Prelude.{◌≡◌, ℕ, List, [], ◌∷◌, ◌++◌, Option, OnSome, ◌⊎◌}
use Rattle.std.specs.Io.{StartsWith}
use Rattle.std.specs.Io.KnownBytes.{Consumes, Appends, IsAtEnd}
use Rattle.ssa_model.specs.definitions.Lines.{line_feed, lines, whole_lines, unfinished_line, ended}
use Rattle.ssa_session.specs.Session.{Replies}

module _ {M : Type 0} (reply : M → List ℕ → List ℕ)
    (after : M → List ℕ → M) (left left_after : Option (List ℕ)) (written written_after : Option (List ℕ)) (old new : M) where
  -- every line that was read was answered, an unfinished last one too
  pub record AnswersAll : Type 0 where
    pub input : List ℕ
    pub read : Consumes left left_after input
    pub texts : List (List ℕ)
    pub replies : Replies reply after old (lines input) texts new
    pub writes : Appends written written_after (ended texts)

  -- every whole line that was read was answered, and no unfinished one
  pub record AnswersWhole : Type 0 where
    pub input : List ℕ
    pub read : Consumes left left_after input
    pub texts : List (List ℕ)
    pub replies : Replies reply after old (whole_lines input) texts new
    pub writes : Appends written written_after (ended texts)

  -- every line that was read was answered, and of the last reply only a beginning was written;
  -- a line with no line feed was read only where the input has ended
  pub record AnswersPartly : Type 0 where
    pub input : List ℕ
    pub read : Consumes left left_after input
    pub ends : (unfinished_line input ≡ []) ⊎ OnSome left (IsAtEnd left_after)
    pub texts : List (List ℕ)
    pub last : List ℕ
    pub replies : Replies reply after old (lines input) (texts ++ last ∷ []) new
    pub beginning : List ℕ
    pub begins : StartsWith (last ++ line_feed ∷ []) beginning
    pub writes : Appends written written_after (ended texts ++ beginning)
