-- The lines of values' texts give the values, and lines that give values are their texts.
use Rattle.std.proofs.Common.{◌≡◌, List, [], ◌∷◌, ◌++◌, map, Some, None, option_map, option_and_then, refl, sym, ap, ◌∙◌}
use Rattle.std.proofs.lemmas.List.{append-nil}
use Rattle.std.proofs.lemmas.Option.{same_Some, none-some}
use Rattle.std.specs.Prelude.{if◌then◌else◌, flat_map, Result, Ok, Err}
use Rattle.std.specs.List.{All}
use Rattle.std.proofs.lemmas.List.Elements.{All-head, All-tail}
use Rattle.ssa_model.specs.definitions.Json.{Text, Json, compact, same_text}
use Rattle.ssa_model.specs.definitions.Readings.{Readings, ReadFault}
use Rattle.ssa_model.specs.definitions.Lines.{ended, whole_lines, unfinished_line}
use Rattle.ssa_model.specs.definitions.BenchText.{line}
use Rattle.ssa_model.specs.definitions.BenchFile.{IsSpelled}
use Rattle.ssa_model.specs.definitions.BenchOfStates.{ended_lines, text_lines, spelled_value, spelled_values}
use Rattle.ssa_model.proofs.Given.{given-back, and_then-back, map-back}
use Rattle.ssa_model.proofs.LinesFacts.{HaveNoLineFeed, split_lines-ended, ended-split_lines}
use Rattle.ssa_model.proofs.OneLine.{compact-plain}
use Rattle.ssa_model.proofs.Tables.{same_text-true, text-itself}

-- ---- from values to lines

-- each value's line is its text, ended
pub lines-are-ended : (vs : List Json) → flat_map line vs ≡ ended (map compact vs)
lines-are-ended [] = refl
lines-are-ended (v ∷ vs) = ap (λ t. line v ++ t) (lines-are-ended vs)

all-plain : (vs : List Json) → HaveNoLineFeed (map compact vs)
all-plain [] = tt
all-plain (v ∷ vs) = (compact-plain v, all-plain vs)

-- the lines of values are their texts
pub text_lines-of : (vs : List Json) → text_lines (flat_map line vs) ≡ Some (map compact vs)
text_lines-of vs = ap text_lines (lines-are-ended vs) ∙ ap ended_lines (split_lines-ended (map compact vs) (all-plain vs))

-- a value that is read from its text
spelled-back : (readings : Readings) (v : Json) → IsSpelled readings v → spelled_value readings (compact v) ≡ Some v
spelled-back readings v h =
    ap (λ (r : Result Json ReadFault). elim r [ Ok w ↦ if same_text (compact w) (compact v) then Some w else None | Err f ↦ None ]) h
    ∙ ap (λ b. if b then Some v else None) (text-itself (compact v))

-- values that are read from their texts
pub spelled_values-of : (readings : Readings) (vs : List Json) → All (IsSpelled readings) vs → spelled_values readings (map compact vs) ≡ Some vs
spelled_values-of readings [] h = refl
spelled_values-of readings (v ∷ vs) h =
    ap (option_and_then (λ w. option_map (λ ws. w ∷ ws) (spelled_values readings (map compact vs))))
    (spelled-back readings v (All-head (IsSpelled readings) v vs h))
    ∙ ap (option_map (λ ws. v ∷ ws)) (spelled_values-of readings vs (All-tail (IsSpelled readings) v vs h))

-- ---- from lines to values

ended-is : (ls : List Text) (rest : Text) (texts : List Text) → ended_lines (ls, rest) ≡ Some texts → ended ls ++ rest ≡ ended texts
ended-is ls [] texts h = append-nil (ended ls) ∙ ap ended (same_Some ls texts h)
ended-is ls (b ∷ bs) texts h = absurd (none-some texts h)

-- a text with such lines is the lines, each ended
pub text-of-lines : (t : Text) (texts : List Text) → text_lines t ≡ Some texts → t ≡ ended texts
text-of-lines t texts h = sym (ended-split_lines t) ∙ ended-is (whole_lines t) (unfinished_line t) texts h

-- the text of a value that is taken from it
spelled-by : (t : Text) (r : Result Json ReadFault) (v : Json)
    → elim r [ Ok w ↦ if same_text (compact w) t then Some w else None | Err f ↦ None ] ≡ Some v → t ≡ compact v
spelled-by t (Ok w) v h = let got = given-back (same_text (compact w) t) w v h in sym (same_text-true (compact w) t got.0) ∙ ap compact got.1
spelled-by t (Err f) v h = absurd (none-some v h)

-- lines that give values are their texts
pub texts-of-values : (readings : Readings) (ts : List Text) (vs : List Json) → spelled_values readings ts ≡ Some vs → ts ≡ map compact vs
texts-of-values readings [] vs h = ap (map compact) (same_Some [] vs h)
texts-of-values readings (t ∷ ts) vs h =
    let first = and_then-back (λ v. option_map (λ ws. v ∷ ws) (spelled_values readings ts)) (spelled_value readings t) vs h in
    let rest = map-back (λ ws. first.0 ∷ ws) (spelled_values readings ts) vs first.2 in
    (λ i. spelled-by t (readings.value t) first.0 first.1 i ∷ texts-of-values readings ts rest.0 rest.1 i) ∙ ap (map compact) rest.2

-- a text whose lines give values is those of the values
pub text-of-values : (readings : Readings) (t : Text) (ts : List Text) (vs : List Json)
    → text_lines t ≡ Some ts → spelled_values readings ts ≡ Some vs → t ≡ flat_map line vs
text-of-values readings t ts vs h values = text-of-lines t ts h ∙ ap ended (texts-of-values readings ts vs values) ∙ sym (lines-are-ended vs)
