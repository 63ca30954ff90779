-- Laws of a session, line by line.
use Rattle.std.proofs.Common.{◌≡◌, ◌≢◌, ℕ, List, [], ◌∷◌, ◌++◌, Option, Some, None, OnSome, ◌⊎◌, inl, inr, refl, ap, ◌∙◌, subst}
use Rattle.std.proofs.lemmas.List.{append-nil}
use Rattle.std.proofs.lemmas.Grind.{flat_map-append}
use Rattle.std.proofs.KnownBytes.{Consumes-nil, Consumes-trans, Appends-nil, Appends-trans}
use Rattle.std.specs.Io.KnownBytes.{Consumes, Appends, IsAtEnd}
use Rattle.ssa_lines.specs.declared.line.Line.{Line}
use Rattle.ssa_model.specs.definitions.Limits.{most_line_bytes}
use Rattle.ssa_model.specs.definitions.Lines.{line_feed, split_lines, whole_lines, unfinished_line, last_line, lines, ended, HasNoLineFeed}
use Rattle.ssa_lines.specs.Reading.{TakesLine}
use Rattle.ssa_json.specs.Devices.{AppendsPart}
use Rattle.ssa_session.specs.Session.{IsAnswer, IsRefused, AnswersLine, Replies}
use Rattle.ssa_session.specs.Outcome.{AnswersAll, AnswersWhole, AnswersPartly}
use Rattle.ssa_model.proofs.LinesFacts.{split_lines-whole, split_lines-unfinished}

-- the source is at its end, whatever it has given before
pub IsAtEnd-consumed : (first old new : Option (List ℕ)) (xs : List ℕ) → Consumes first old xs → OnSome old (IsAtEnd new) → OnSome first (IsAtEnd new)
IsAtEnd-consumed None old new xs p q = tt
IsAtEnd-consumed (Some a) None new xs p q = absurd p
IsAtEnd-consumed (Some a) (Some b) new xs p q = q

last_line-of_some : (text : List ℕ) → text ≢ [] → last_line text ≡ text ∷ []
last_line-of_some [] some = absurd (some refl)
last_line-of_some (x ∷ xs) some = refl

ended-more : (texts : List (List ℕ)) (text : List ℕ) → ended (texts ++ text ∷ []) ≡ ended texts ++ (text ++ line_feed ∷ [])
ended-more texts text = flat_map-append (λ t. t ++ line_feed ∷ []) texts (text ∷ []) ∙ ap (λ t. ended texts ++ t) (append-nil (text ++ line_feed ∷ []))

lines-unfinished : (bytes text : List ℕ) → unfinished_line bytes ≡ [] → HasNoLineFeed text → lines (bytes ++ text) ≡ whole_lines bytes ++ last_line text
lines-unfinished bytes text whole plain = ap (λ s. s.0 ++ last_line s.1) (split_lines-unfinished bytes text whole plain)

lines-whole : (bytes text : List ℕ) → unfinished_line bytes ≡ [] → HasNoLineFeed text
    → lines (bytes ++ (text ++ line_feed ∷ [])) ≡ whole_lines bytes ++ text ∷ []
lines-whole bytes text whole plain = ap (λ s. s.0 ++ last_line s.1) (split_lines-whole bytes text whole plain) ∙ append-nil (whole_lines bytes ++ text ∷ [])

module _ {M : Type 0} (reply : M → List ℕ → List ℕ) (after : M → List ℕ → M) where
  Replies-more : (old mid new : M) (lines texts : List (List ℕ)) (line text : List ℕ) → Replies reply after old lines texts mid
      → IsAnswer reply after mid line text new ⊎ IsRefused reply after mid line text new → Replies reply after old (lines ++ line ∷ []) (texts ++ text ∷ []) new
  Replies-more old mid new [] [] line text before answer = (
    new,
    subst (λ m. IsAnswer reply after m line text new ⊎ IsRefused reply after m line text new) before answer,
    refl,
  )
  Replies-more old mid new (l ∷ lines) (t ∷ texts) line text before answer =
      (before.0, before.1, Replies-more before.0 mid new lines texts line text before.2 answer)
  Replies-more old mid new [] (t ∷ texts) line text before answer = absurd before
  Replies-more old mid new (l ∷ lines) [] line text before answer = absurd before

  -- The lines so far are whole, and answered.
  pub record SoFar (left left_after written written_after : Option (List ℕ)) (old new : M) : Type 0 where
    -- what was read so far
    pub input : List ℕ
    -- no line of it is unfinished
    pub whole : unfinished_line input ≡ []
    -- the source has given it
    pub read : Consumes left left_after input
    -- the texts of the replies
    pub texts : List (List ℕ)
    -- each whole line has its reply
    pub replies : Replies reply after old (whole_lines input) texts new
    -- the replies were written, each with its line's end
    pub writes : Appends written written_after (ended texts)

  -- before anything is read nothing is answered
  pub SoFar-none : (left written : Option (List ℕ)) (old : M) → SoFar left left written written old old
  unfolding split_lines
  SoFar-none left written old = record { input = []; whole = refl; read = Consumes-nil left; texts = []; replies = refl; writes = Appends-nil written }

  module _ (a b c w v u : Option (List ℕ)) (old mid new : M) (held : Line) (so_far : SoFar a b w v old mid) where
    -- a whole line that is read and answered goes to those so far
    pub SoFar-more : (line : TakesLine most_line_bytes b c held (line_feed ∷ [])) → AnswersLine reply after mid new line.text (Appends v u)
        → SoFar a c w u old new
    SoFar-more line answer =
        let split = split_lines-whole so_far.input line.text so_far.whole line.plain in
        record {
          input = so_far.input ++ (line.text ++ line_feed ∷ []);
          whole = ap (λ s. s.1) split;
          read = Consumes-trans a b c _ _ so_far.read line.taken;
          texts = so_far.texts ++ answer.text ∷ [];
          replies = rw (ap (λ s. s.0) split) (Replies-more old mid new _ _ _ _ so_far.replies answer.answer);
          writes = rw (ended-more so_far.texts answer.text) (Appends-trans w v u _ _ so_far.writes answer.writes);
        }

    -- the reader failed in a line
    pub AnswersWhole-fault : TakesLine most_line_bytes b c held [] → AnswersWhole reply after a c w v old mid
    AnswersWhole-fault line =
        let split = split_lines-unfinished so_far.input line.text so_far.whole line.plain in
        record {
          input = so_far.input ++ line.text;
          read = Consumes-trans a b c _ _ so_far.read (rw append-nil at line.taken);
          texts = so_far.texts;
          replies = rw (ap (λ s. s.0) split) so_far.replies;
          writes = so_far.writes;
        }

    -- the input ended in a line
    pub AnswersAll-last : (line : TakesLine most_line_bytes b c held []) → line.text ≢ [] → AnswersLine reply after mid new line.text (Appends v u)
        → AnswersAll reply after a c w u old new
    AnswersAll-last line some answer =
        record {
          input = so_far.input ++ line.text;
          read = Consumes-trans a b c _ _ so_far.read (rw append-nil at line.taken);
          texts = so_far.texts ++ answer.text ∷ [];
          replies = rw (
            lines-unfinished so_far.input line.text so_far.whole line.plain,
            last_line-of_some line.text some,
          ) (Replies-more old mid new _ _ _ _ so_far.replies answer.answer);
          writes = rw (ended-more so_far.texts answer.text) (Appends-trans w v u _ _ so_far.writes answer.writes);
        }

    -- the writer failed at a whole line
    pub AnswersPartly-whole : (line : TakesLine most_line_bytes b c held (line_feed ∷ [])) → AnswersLine reply after mid new line.text (AppendsPart v u)
        → AnswersPartly reply after a c w u old new
    AnswersPartly-whole line answer =
        let split = split_lines-whole so_far.input line.text so_far.whole line.plain in
        record {
          input = so_far.input ++ (line.text ++ line_feed ∷ []);
          read = Consumes-trans a b c _ _ so_far.read line.taken;
          ends = inl (ap (λ s. s.1) split);
          texts = so_far.texts;
          last = answer.text;
          replies = rw (lines-whole so_far.input line.text so_far.whole line.plain) (Replies-more old mid new _ _ _ _ so_far.replies answer.answer);
          beginning = answer.writes.beginning;
          begins = answer.writes.begins;
          writes = Appends-trans w v u _ _ so_far.writes answer.writes.writes;
        }

    -- the writer failed at the last line
    pub AnswersPartly-last : (line : TakesLine most_line_bytes b c held []) → line.text ≢ [] → OnSome a (IsAtEnd c)
        → AnswersLine reply after mid new line.text (AppendsPart v u) → AnswersPartly reply after a c w u old new
    AnswersPartly-last line some end answer =
        record {
          input = so_far.input ++ line.text;
          read = Consumes-trans a b c _ _ so_far.read (rw append-nil at line.taken);
          ends = inr end;
          texts = so_far.texts;
          last = answer.text;
          replies = rw (
            lines-unfinished so_far.input line.text so_far.whole line.plain,
            last_line-of_some line.text some,
          ) (Replies-more old mid new _ _ _ _ so_far.replies answer.answer);
          beginning = answer.writes.beginning;
          begins = answer.writes.begins;
          writes = Appends-trans w v u _ _ so_far.writes answer.writes.writes;
        }
