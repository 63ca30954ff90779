-- What a reader of a text has read of it: the lines so far, their values, and how many bytes there may still be.
use Rattle.std.proofs.Common.{◌≡◌, ◌≤◌, ℕ, suc, ◌+◌, ◌-◌, length, List, [], ◌∷◌, ◌++◌, true, Option, Some, None, option_map, option_and_then, refl, sym, ap, ◌∙◌, arith, length-append, append_assoc, append-nil}
use Rattle.std.proofs.lemmas.Bool.Decides.{nat_tests}
use Rattle.std.specs.Prelude.{if◌then◌else◌, nat_lt}
use Rattle.ssa_model.specs.definitions.Json.{Text, Json}
use Rattle.ssa_model.specs.definitions.Readings.{Readings}
use Rattle.ssa_model.specs.definitions.Lines.{line_feed, ended}
use Rattle.ssa_model.specs.definitions.BenchOfStates.{spelled_value, spelled_values, values_of}
use Rattle.ssa_model.specs.definitions.BenchFaults.{lines_within}
use Rattle.ssa_model.proofs.FirstValues.{values-first}
use Rattle.ssa_model.proofs.LinesFacts.{HaveNoLineFeed}

-- ---- the lines so far

-- ---- their values

-- the values of some lines and of what follows them
abbrev pub both_values : Option (List Json) → Option (List Json) → Option (List Json)
both_values a b = option_and_then (λ vs. option_map (λ ws. vs ++ ws) b) a

none-behind : (b : Option (List Json)) → option_map (λ ws. ws) b ≡ b
none-behind None = refl
none-behind (Some ws) = refl

one-in-front : (first : Option Json) (a b : Option (List Json))
    → option_and_then (λ v. option_map (λ vs. v ∷ vs) (both_values a b)) first ≡ both_values (option_and_then (λ v. option_map (λ vs. v ∷ vs) a) first) b
one-in-front None a b = refl
one-in-front (Some v) None b = refl
one-in-front (Some v) (Some vs) None = refl
one-in-front (Some v) (Some vs) (Some ws) = refl

module _ (readings : Readings) where
  -- values are read from some lines and from what follows them
  pub values-after : (ts : List Text) (rest : Text) → HaveNoLineFeed ts
      → values_of readings (ended ts ++ rest) ≡ both_values (spelled_values readings ts) (values_of readings rest)
  values-after [] rest plain = sym (none-behind (values_of readings rest))
  values-after (t ∷ ts) rest plain =
      ap (values_of readings) (append_assoc (t ++ line_feed ∷ []) (ended ts) rest)
      ∙ values-first readings t (ended ts ++ rest) plain.0
      ∙ ap (λ o. option_and_then (λ v. option_map (λ vs. v ∷ vs) o) (spelled_value readings t)) (values-after ts rest plain.1)
      ∙ one-in-front (spelled_value readings t) (spelled_values readings ts) (values_of readings rest)
  -- ---- bytes that begin with no value's line

-- ---- how many bytes there may be

short : (a b : ℕ) → suc a ≤ b → nat_lt a b ≡ true
short a b h = grind (arith, nat_tests)

-- lines that end within the room, and those that follow them
pub lines_within-after : (room : ℕ) (ts us : List Text) → length (ended ts) ≤ room
    → lines_within room (ts ++ us) ≡ ts ++ lines_within (room - length (ended ts)) us
lines_within-after room [] us h = ap (λ n. lines_within n us) (let same : room ≡ room - 0 = omega arith in same)
lines_within-after room (t ∷ ts) us h =
    let both = length-append (t ++ line_feed ∷ []) (ended ts) in
    let own = length-append t (line_feed ∷ []) in
    let left : (room - (length t + 1)) - length (ended ts) ≡ room - length (ended (t ∷ ts)) = omega (arith, both, own, h) in
    ap (λ b. if b then t ∷ lines_within (room - (length t + 1)) (ts ++ us) else []) (short (length t) room (omega (arith, both, own, h)))
    ∙ ap (λ xs. t ∷ xs) (lines_within-after (room - (length t + 1)) ts us (omega (arith, both, own, h)))
    ∙ ap (λ n. t ∷ (ts ++ lines_within n us)) left

-- where all lines end within the room
pub lines_within-all : (room : ℕ) (ts : List Text) → length (ended ts) ≤ room → lines_within room ts ≡ ts
lines_within-all room ts h = ap (lines_within room) (sym (append-nil ts)) ∙ lines_within-after room ts [] h ∙ append-nil ts
