-- Laws of reading a line piece by piece.
use Rattle.std.proofs.Common.{◌≡◌, ℕ, List, [], ◌++◌, Option, Some, Result, Ok, Err, ap, sym, ◌∙◌, subst, append_assoc}
use Rattle.std.proofs.lemmas.List.{append-nil}
use Rattle.std.proofs.KnownBytes.{Consumes-nil, Consumes-trans}
use Rattle.std.specs.Io.KnownBytes.{Consumes}
use Rattle.ssa_lines.specs.declared.line.Line.{Line}
use Rattle.ssa_lines.specs.Held.{Holds}
use Rattle.ssa_lines.specs.Reading.{TakesPiece, TakesLine}
use Rattle.ssa_model.proofs.LinesFacts.{HasNoLineFeed-append}

-- a line begins with no byte
pub TakesLine-none : (most : ℕ) (a : Option (List ℕ)) (line : Line) → Holds most line [] → TakesLine most a a line []
TakesLine-none most a line h = record { text = []; plain = tt; held = h; taken = Consumes-nil a }

-- a line goes on by a piece
pub TakesLine-more : (most : ℕ) (a b c : Option (List ℕ)) (old new : Line) (end : List ℕ) → TakesLine most a b old [] → TakesPiece most b c old new end
    → TakesLine most a c new end
TakesLine-more most a b c old new end before more = record {
  text = before.text ++ more.piece;
  plain = HasNoLineFeed-append _ _ before.plain more.plain;
  held = more.adds before.text before.held;
  taken = subst (Consumes a c) (ap (λ t. t ++ (more.piece ++ end)) (append-nil before.text)
      ∙ sym (append_assoc before.text more.piece end)) (Consumes-trans a b c _ _ before.taken more.taken);
}

-- what is read as one answer is read as the same one of a piece
pub ok-some : {A E : Type 0} (a b : A) → ◌≡◌ {A = Result A E} (Ok a) (Ok b) → ◌≡◌ {A = Result (Option A) E} (Ok (Some a)) (Ok (Some b))
ok-some a b h = ap (λ r. elim r [ Ok x ↦ Ok (Some x) | Err e ↦ Err e ]) h
