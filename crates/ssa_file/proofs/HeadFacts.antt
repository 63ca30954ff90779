-- The head of a file of whole states whose numbers are refused.
use Rattle.std.proofs.Common.{◌≡◌, ℕ, ◌+◌, Some, None, false, sym, ap, ◌∙◌}
use Rattle.std.specs.Prelude.{◌&&◌, Option, codes, nat_lt, nat_le, option_and_then}
use Rattle.ssa_model.specs.definitions.BenchText.{head_of}
use Rattle.ssa_model.specs.definitions.Json.{Json, member_at}
use Rattle.ssa_model.specs.definitions.Limits.{most_past}
use Rattle.ssa_model.specs.definitions.BenchOfStates.{Head, given_if, head_in, is_written_as, number_in}
use Rattle.ssa_model.proofs.Basics.{and-false}

abbrev head : ℕ → ℕ → Head
head place states = record { place = place; states = states }

-- the head of two numbers, where it is written as the value and they are neither too few nor too many
abbrev told : Json → ℕ → ℕ → Option Head
told v place states =
    given_if (is_written_as (head_of place states) v && (nat_lt place states && nat_le states (most_past + 1))) (head place states)

-- where they are, there is none
pub no-head : (v : Json) (place states : ℕ) → Some place ≡ number_in (member_at (codes "place") v) → Some states ≡ number_in (member_at (codes "states") v)
    → (nat_lt place states && nat_le states (most_past + 1)) ≡ false → None ≡ head_in v
no-head v place states place-is states-is out =
    let written = is_written_as (head_of place states) v in
    sym (ap (λ b. given_if (written && b) (head place states)) out ∙ ap (λ b. given_if b (head place states)) (and-false written))
    ∙ (λ i. option_and_then (λ n. option_and_then (told v n) (states-is i)) (place-is i))
