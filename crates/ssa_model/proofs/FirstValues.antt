-- The values of a text whose first line is known.
use Rattle.std.proofs.Common.{◌≡◌, List, [], ◌∷◌, ◌++◌, true, Option, Some, None, option_map, option_and_then, refl, sym, ap, ◌∙◌}
use Rattle.std.specs.Prelude.{if◌then◌else◌, Result, Ok, Err}
use Rattle.ssa_model.specs.definitions.Json.{Text, Json, compact, same_text}
use Rattle.ssa_model.specs.definitions.Readings.{Readings, ReadFault}
use Rattle.ssa_model.specs.definitions.Lines.{line_feed, whole_lines, unfinished_line, HasNoLineFeed}
use Rattle.ssa_model.specs.definitions.BenchOfStates.{ended_lines, text_lines, spelled_value, spelled_values, values_of}
use Rattle.ssa_model.proofs.LinesFacts.{split_lines-first}

-- ---- the value of a line

-- the text is that of the value which is read from it
pub spelled-found : (readings : Readings) (t : Text) (v : Json) → readings.value t ≡ Ok v → same_text (compact v) t ≡ true → spelled_value readings t ≡ Some v
spelled-found readings t v read same =
    ap (λ (r : Result Json ReadFault). elim r [ Ok w ↦ if same_text (compact w) t then Some w else None | Err f ↦ None ]) read
    ∙ ap (λ b. if b then Some v else None) same

-- ---- the lines of a text

one-more : (l : Text) (ls : List Text) (r : Text) → ended_lines (l ∷ ls, r) ≡ option_map (λ ks. l ∷ ks) (ended_lines (ls, r))
one-more l ls [] = refl
one-more l ls (b ∷ bs) = refl

text_lines-first : (l rest : Text) → HasNoLineFeed l → text_lines ((l ++ line_feed ∷ []) ++ rest) ≡ option_map (λ ls. l ∷ ls) (text_lines rest)
text_lines-first l rest plain = ap ended_lines (split_lines-first l rest plain) ∙ one-more l (whole_lines rest) (unfinished_line rest)

-- ---- the values of the lines

nothing : (o : Option Json) → option_and_then (λ (v : Json). option_map (λ vs. v ∷ vs) None) o ≡ None
nothing (Some v) = refl
nothing None = refl

values-more : (readings : Readings) (l : Text) (o : Option (List Text))
    → option_and_then (spelled_values readings) (option_map (λ ls. l ∷ ls) o)
    ≡ option_and_then (λ v. option_map (λ vs. v ∷ vs) (option_and_then (spelled_values readings) o)) (spelled_value readings l)
values-more readings l (Some ls) = refl
values-more readings l None = sym (nothing (spelled_value readings l))

-- the values of a text are the first line's, and the rest's
pub values-first : (readings : Readings) (l rest : Text) → HasNoLineFeed l
    → values_of readings ((l ++ line_feed ∷ []) ++ rest) ≡ option_and_then (λ v. option_map (λ vs. v ∷ vs) (values_of readings rest)) (spelled_value readings l)
values-first readings l rest plain = ap (option_and_then (spelled_values readings)) (text_lines-first l rest plain) ∙ values-more readings l (text_lines rest)

-- where the first line has a value
pub values-found : (readings : Readings) (l rest : Text) (v : Json) → HasNoLineFeed l → spelled_value readings l ≡ Some v
    → values_of readings ((l ++ line_feed ∷ []) ++ rest) ≡ option_map (λ vs. v ∷ vs) (values_of readings rest)
values-found readings l rest v plain h = values-first readings l rest plain ∙ ap (option_and_then (λ w. option_map (λ vs. w ∷ vs) (values_of readings rest))) h
