-- The text of a moment is ASCII.
use Rattle.std.proofs.Common.{◌≡◌, ℕ, zero, suc, ◌+◌, ◌<◌, ◌≤◌, List, [], ◌∷◌, length, true, false, ◌&&◌, refl, sym, ap, ◌∙◌, true≢false, arith, IsUtf8}
use Rattle.std.specs.Prelude.{◌==◌, Option, Some, None, is_some, nat_le, slice_index, option_and_then}
use Rattle.std.specs.Str.{IsAscii}
use Rattle.std.proofs.lemmas.Bool.{and_parts}
use Rattle.std.proofs.lemmas.Bool.Decides.{nat_tests}
use Rattle.std.proofs.lemmas.Str.{IsUtf8-from_ascii}
use Rattle.ssa_json.specs.Moment.{is_moment, digit_of, has_marks, exists, parts_of, two_at}
use Rattle.ssa_json.specs.declared.moment.Parts.{Parts}
use Rattle.ssa_json.proofs.Moments.{moment_length}

digit_small : (b : ℕ) → is_some (digit_of b) ≡ true → b < 128
unfolding digit_of
digit_small b some =
    elim (nat_le 48 b && nat_le b 57) as (λ t. (nat_le 48 b && nat_le b 57) ≡ t → b < 128) [
      | true ↦ λ within. grind (arith, nat_tests)
      | false ↦ λ other. absurd (true≢false (sym some ∙ rw other refl))
    ] refl

-- what is bound is there
bound : {A : Type 0} (o : Option A) (f : A → Option Parts) → exists (option_and_then f o) ≡ true → (a : A) × (o ≡ Some a) × (exists (f a) ≡ true)
bound None f some = absurd (true≢false (sym some))
bound (Some a) f some = (a, refl, some)

two_small : (t : List ℕ) (i n : ℕ) → two_at t i ≡ Some n → (slice_index t i < 128) × (slice_index t (i + 1) < 128)
unfolding two_at
two_small t i n is =
    elim (digit_of (slice_index t i)) as (λ a. digit_of (slice_index t i) ≡ a → (slice_index t i < 128) × (slice_index t (i + 1) < 128)) [
      | None ↦ λ none. absurd (true≢false (sym (ap is_some is) ∙ rw none refl))
      | Some a ↦ λ first.
          elim (digit_of (slice_index t (i + 1))) as (λ b. digit_of (slice_index t (i + 1)) ≡ b → (slice_index t i < 128) × (slice_index t (i + 1) < 128)) [
            | None ↦ λ none. absurd (true≢false (sym (ap is_some is) ∙ rw (first, none) refl))
            | Some b ↦ λ second. (digit_small (slice_index t i) (ap is_some first), digit_small (slice_index t (i + 1)) (ap is_some second))
          ] refl
    ] refl

past-end : (t : List ℕ) (i : ℕ) → length t ≤ i → slice_index t i < 128
past-end [] i past = omega arith
past-end (b ∷ bs) zero past = absurd (omega (arith, past))
past-end (b ∷ bs) (suc i) past = past-end bs i (omega (arith, past))

-- the bytes of a moment, place by place
record AreSmall (t : List ℕ) : Type 0 where
  century : (slice_index t 0 < 128) × (slice_index t 1 < 128)
  years : (slice_index t 2 < 128) × (slice_index t 3 < 128)
  month : (slice_index t 5 < 128) × (slice_index t 6 < 128)
  day : (slice_index t 8 < 128) × (slice_index t 9 < 128)
  hour : (slice_index t 11 < 128) × (slice_index t 12 < 128)
  minute : (slice_index t 14 < 128) × (slice_index t 15 < 128)
  second : (slice_index t 17 < 128) × (slice_index t 18 < 128)

digits_small : (t : List ℕ) → exists (parts_of t) ≡ true → AreSmall t
unfolding parts_of
digits_small t there =
    let a = bound (two_at t 0) _ there in
    let b = bound (two_at t 2) _ a.2 in
    let c = bound (two_at t 5) _ b.2 in
    let d = bound (two_at t 8) _ c.2 in
    let e = bound (two_at t 11) _ d.2 in
    let f = bound (two_at t 14) _ e.2 in
    let g = bound (two_at t 17) _ f.2 in
    record {
      century = two_small t 0 a.0 a.1;
      years = two_small t 2 b.0 b.1;
      month = two_small t 5 c.0 c.1;
      day = two_small t 8 d.0 d.1;
      hour = two_small t 11 e.0 e.1;
      minute = two_small t 14 f.0 f.1;
      second = two_small t 17 g.0 g.1;
    }

small-at : (t : List ℕ) → AreSmall t → has_marks t ≡ true → length t ≡ 20 → IsAscii t
small-at t s marks len zero = s.century.0
small-at t s marks len (suc zero) = s.century.1
small-at t s marks len (suc (suc zero)) = s.years.0
small-at t s marks len (suc (suc (suc zero))) = s.years.1
small-at t s marks len (suc (suc (suc (suc zero)))) = grind (arith, nat_tests)
small-at t s marks len (suc (suc (suc (suc (suc zero))))) = s.month.0
small-at t s marks len (suc (suc (suc (suc (suc (suc zero)))))) = s.month.1
small-at t s marks len (suc (suc (suc (suc (suc (suc (suc zero))))))) = grind (arith, nat_tests)
small-at t s marks len (suc (suc (suc (suc (suc (suc (suc (suc zero)))))))) = s.day.0
small-at t s marks len (suc (suc (suc (suc (suc (suc (suc (suc (suc zero))))))))) = s.day.1
small-at t s marks len (suc (suc (suc (suc (suc (suc (suc (suc (suc (suc zero)))))))))) = grind (arith, nat_tests)
small-at t s marks len (suc (suc (suc (suc (suc (suc (suc (suc (suc (suc (suc zero))))))))))) = s.hour.0
small-at t s marks len (suc (suc (suc (suc (suc (suc (suc (suc (suc (suc (suc (suc zero)))))))))))) = s.hour.1
small-at t s marks len (suc (suc (suc (suc (suc (suc (suc (suc (suc (suc (suc (suc (suc zero))))))))))))) = grind (arith, nat_tests)
small-at t s marks len (suc (suc (suc (suc (suc (suc (suc (suc (suc (suc (suc (suc (suc (suc zero)))))))))))))) = s.minute.0
small-at t s marks len (suc (suc (suc (suc (suc (suc (suc (suc (suc (suc (suc (suc (suc (suc (suc zero))))))))))))))) = s.minute.1
small-at t s marks len (suc (suc (suc (suc (suc (suc (suc (suc (suc (suc (suc (suc (suc (suc (suc (suc zero)))))))))))))))) = grind (arith, nat_tests)
small-at t s marks len (suc (suc (suc (suc (suc (suc (suc (suc (suc (suc (suc (suc (suc (suc (suc (suc (suc zero))))))))))))))))) = s.second.0
small-at t s marks len (suc (suc (suc (suc (suc (suc (suc (suc (suc (suc (suc (suc (suc (suc (suc (suc (suc (suc zero)))))))))))))))))) = s.second.1
small-at t s marks len (suc (suc (suc (suc (suc (suc (suc (suc (suc (suc (suc (suc (suc (suc (suc (suc (suc (suc (suc zero))))))))))))))))))) =
    grind (arith, nat_tests)
small-at t s marks len (suc (suc (suc (suc (suc (suc (suc (suc (suc (suc (suc (suc (suc (suc (suc (suc (suc (suc (suc (suc i)))))))))))))))))))) =
    past-end t (suc (suc (suc (suc (suc (suc (suc (suc (suc (suc (suc (suc (suc (suc (suc (suc (suc (suc (suc (suc i)))))))))))))))))))) (omega (arith, len))

-- the text of a moment is UTF-8
pub moment-is-utf8 : (t : List ℕ) → is_moment t ≡ true → IsUtf8 t
unfolding is_moment
moment-is-utf8 t h =
    let front = and_parts ((length t == 20) && has_marks t) (exists (parts_of t)) h in
    let marks = (and_parts (length t == 20) (has_marks t) front.0).1 in
    IsUtf8-from_ascii t (small-at t (digits_small t front.1) marks (moment_length t h))
