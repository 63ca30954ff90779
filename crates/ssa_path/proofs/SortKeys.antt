-- A lesser number of the next bytes tells that an element stands first.
use Rattle.std.proofs.Common.{◌≡◌, ℕ, zero, suc, ◌+◌, ◌*◌, ◌-◌, ◌^◌, ◌<◌, List, [], ◌∷◌, ◌++◌, drop, Bool, true, false, Less, Equal, refl, sym, ap, subst, ◌∙◌, append_assoc, true≢false, arith}
use Rattle.std.specs.Prelude.{◌==◌, nat_lt, if◌then◌else◌}
use Rattle.std.proofs.lemmas.Bool.Decides.{nat_tests}
use Rattle.std.proofs.Math.Nat.{pow-suc}
use Rattle.std.specs.Ordering.{nat_cmp, ordering_then}
use Rattle.ssa_model.specs.definitions.Json.{escaped_byte, escaped, quoted}
use Rattle.ssa_path.specs.Order.{BeginAlike}
use Rattle.ssa_path.specs.SortKeys.{AreBytes, is_plain, next_byte, next_rest, key_from, sort_key}
use Rattle.ssa_path.proofs.Parts.{text_cmp}
use Rattle.ssa_path.proofs.Escapes.{quoted_end, end-same, past-alike}

-- ---- the byte that comes next

-- the text begins with this byte
record Begins (n : ℕ) (t : List ℕ) : Type 0 where
  rest : List ℕ
  is : t ≡ n ∷ rest

begins-more : (n : ℕ) (t u : List ℕ) → Begins n t → Begins n (t ++ u)
begins-more n t u h = record { rest = h.rest ++ u; is = ap (λ w. w ++ u) h.is }

choose : (n : ℕ) (c : Bool) (u v : List ℕ) → (c ≡ true → Begins n u) → (c ≡ false → Begins n v) → Begins n (if c then u else v)
choose n true u v f g = f refl
choose n false u v f g = g refl

-- in quotes a byte begins with itself, or with a slash
escape-begins : (b : ℕ) → Begins (if is_plain b then b else 92) (escaped_byte b)
escape-begins b =
    elim (is_plain b) as (λ p. is_plain b ≡ p → Begins (if p then b else 92) (escaped_byte b)) [ true ↦ plain | false ↦ other ] refl
  where
    no : {c : Bool} {u : List ℕ} → c ≡ true → c ≡ false → Begins b u
    no e f = absurd (true≢false (sym e ∙ f))

    plain : is_plain b ≡ true → Begins b (escaped_byte b)
    plain p =
        let quote : (b == 34) ≡ false = grind (arith, nat_tests) in
        let slash : (b == 92) ≡ false = grind (arith, nat_tests) in
        let above : nat_lt b 32 ≡ false = grind (arith, nat_tests) in
        let differs = λ (n : ℕ) (h : n < 32). let e : (b == n) ≡ false = grind (arith, nat_tests) in e in
        choose b (b == 34) _ _ (λ e. no e quote) (λ _.
        choose b (b == 92) _ _ (λ e. no e slash) (λ _.
        choose b (b == 8) _ _ (λ e. no e (differs 8 (omega arith))) (λ _.
        choose b (b == 9) _ _ (λ e. no e (differs 9 (omega arith))) (λ _.
        choose b (b == 10) _ _ (λ e. no e (differs 10 (omega arith))) (λ _.
        choose b (b == 12) _ _ (λ e. no e (differs 12 (omega arith))) (λ _.
        choose b (b == 13) _ _ (λ e. no e (differs 13 (omega arith))) (λ _.
        choose b (nat_lt b 32) _ _ (λ e. no e above) (λ _. record { rest = []; is = refl }))))))))

    slashed : (u : List ℕ) → Begins 92 (92 ∷ u)
    slashed u = record { rest = u; is = refl }

    other : is_plain b ≡ false → Begins 92 (escaped_byte b)
    other p =
        choose 92 (b == 34) _ _ (λ _. slashed _) (λ quote.
        choose 92 (b == 92) _ _ (λ _. slashed _) (λ slash.
        choose 92 (b == 8) _ _ (λ _. slashed _) (λ _.
        choose 92 (b == 9) _ _ (λ _. slashed _) (λ _.
        choose 92 (b == 10) _ _ (λ _. slashed _) (λ _.
        choose 92 (b == 12) _ _ (λ _. slashed _) (λ _.
        choose 92 (b == 13) _ _ (λ _. slashed _) (λ _.
        choose 92 (nat_lt b 32) _ _ (λ _. slashed _) (λ above.
        absurd (true≢false (sym (let e : is_plain b ≡ true = grind (arith, nat_tests) in e) ∙ p))))))))))

end-begins : (t : List ℕ) → Begins (next_byte t) (quoted_end t)
end-begins [] = record { rest = []; is = refl }
end-begins (b ∷ t) =
    subst (Begins (next_byte (b ∷ t))) (sym (append_assoc (escaped_byte b) (escaped t) (34 ∷ [])))
    (begins-more (next_byte (b ∷ t)) (escaped_byte b) (quoted_end t) (escape-begins b))

-- the text whose next byte is lesser stands first
first-decides : (t u : List ℕ) → next_byte t < next_byte u → text_cmp (quoted_end t) (quoted_end u) ≡ Less
first-decides t u h =
    let own = end-begins t in
    let others = end-begins u in
    let less : nat_cmp (next_byte t) (next_byte u) ≡ Less = grind (arith, nat_tests) in
    (λ i. text_cmp (own.is i) (others.is i)) ∙ ap (λ o. ordering_then o (text_cmp own.rest others.rest)) less

equal≢less : Equal ≡ Less → ⊥
equal≢less e = cc

-- where the next byte is one, what is behind it decides
rest-decides : (t u : List ℕ) → next_byte t ≡ next_byte u → text_cmp (quoted_end (next_rest t)) (quoted_end (next_rest u)) ≡ Less
    → text_cmp (quoted_end t) (quoted_end u) ≡ Less
rest-decides [] [] e h = h
rest-decides [] (c ∷ u) e h =
    elim (is_plain c) as (λ p. is_plain c ≡ p → 34 ≡ (if p then c else 92) → text_cmp (quoted_end []) (quoted_end (c ∷ u)) ≡ Less) [
      | true ↦ λ p s. absurd (true≢false (sym p ∙ ap is_plain (sym s)))
      | false ↦ λ p s. absurd (omega arith)
    ] refl e
rest-decides (b ∷ t) [] e h =
    elim (is_plain b) as (λ p. is_plain b ≡ p → (if p then b else 92) ≡ 34 → text_cmp (quoted_end (b ∷ t)) (quoted_end []) ≡ Less) [
      | true ↦ λ p s. absurd (true≢false (sym p ∙ ap is_plain s))
      | false ↦ λ p s. absurd (omega arith)
    ] refl e
rest-decides (b ∷ t) (c ∷ u) e h =
    elim (is_plain b) as (λ p. is_plain b ≡ p → (if p then b else 92) ≡ next_byte (c ∷ u)
    → text_cmp (quoted_end (if p then t else [])) (quoted_end (next_rest (c ∷ u))) ≡ Less → text_cmp (quoted_end (b ∷ t)) (quoted_end (c ∷ u)) ≡ Less) [
      | true ↦ λ p. elim (is_plain c) as (λ q. is_plain c ≡ q → b ≡ (if q then c else 92) → text_cmp (quoted_end t) (quoted_end (if q then u else [])) ≡ Less
          → text_cmp (quoted_end (b ∷ t)) (quoted_end (c ∷ u)) ≡ Less) [
            | true ↦ λ q s k. ap (λ x. text_cmp (quoted_end (b ∷ t)) (quoted_end (x ∷ u))) (sym s) ∙ end-same b t u ∙ k
            | false ↦ λ q s k. absurd (true≢false (sym p ∙ ap is_plain s))
          ] refl
      | false ↦ λ p. elim (is_plain c) as (λ q. is_plain c ≡ q → 92 ≡ (if q then c else 92) → text_cmp (quoted_end []) (quoted_end (if q then u else [])) ≡ Less
          → text_cmp (quoted_end (b ∷ t)) (quoted_end (c ∷ u)) ≡ Less) [
            | true ↦ λ q s k. absurd (true≢false (sym q ∙ ap is_plain (sym s)))
            | false ↦ λ q s k. absurd (equal≢less k)
          ] refl
    ] refl e h

-- ---- the number of the next bytes

no-bytes : AreBytes []
no-bytes k = omega arith

next-small : (t : List ℕ) → AreBytes t → next_byte t < 256
next-small [] h = omega arith
next-small (b ∷ t) h = let first = h 0 in elim (is_plain b) as (λ p. (if p then b else 92) < 256) [ true ↦ omega arith | false ↦ omega arith ]

rest-bytes : (t : List ℕ) → AreBytes t → AreBytes (next_rest t)
rest-bytes [] h = no-bytes
rest-bytes (b ∷ t) h = elim (is_plain b) as (λ p. AreBytes (if p then t else [])) [ true ↦ λ k. h (suc k) | false ↦ no-bytes ]

-- behind a lesser number it is lesser
key-rises : (k m n : ℕ) (t u : List ℕ) → AreBytes t → m < n → key_from k m t < key_from k n u
key-rises zero m n t u h lt = lt
key-rises (suc k) m n t u h lt =
    let small = next-small t h in
    key-rises k (m * 256 + next_byte t) (n * 256 + next_byte u) (next_rest t) (next_rest u) (rest-bytes t h) (omega arith)

-- one of two numbers is lesser, or they are one
pub three-ways : {P : Type 0} (a b : ℕ) → (a < b → P) → (b < a → P) → (a ≡ b → P) → P
three-ways {P} a b less greater same =
    elim (nat_lt a b) as (λ t. nat_lt a b ≡ t → P) [
      | true ↦ λ e. less (grind (arith, nat_tests))
      | false ↦ λ e. elim (nat_lt b a) as (λ t. nat_lt b a ≡ t → P) [
        | true ↦ λ f. greater (grind (arith, nat_tests))
        | false ↦ λ f. same (grind (arith, nat_tests))
      ] refl
    ] refl

-- the text with the lesser number stands first
key-decides : (k m : ℕ) (t u : List ℕ) → AreBytes t → AreBytes u → key_from k m t < key_from k m u → text_cmp (quoted_end t) (quoted_end u) ≡ Less
key-decides zero m t u g h lt = absurd (omega arith)
key-decides (suc k) m t u g h lt =
    three-ways (next_byte t) (next_byte u) (first-decides t u)
    (λ less.
    let other = key-rises k (m * 256 + next_byte u) (m * 256 + next_byte t) (next_rest u) (next_rest t) (rest-bytes u h) (omega arith) in
    absurd (omega arith))
    (λ same. rest-decides t u same
    (key-decides k (m * 256 + next_byte u) (next_rest t) (next_rest u) (rest-bytes t g) (rest-bytes u h)
    (subst (λ n. key_from k (m * 256 + n) (next_rest t) < key_from k (m * 256 + next_byte u) (next_rest u)) same lt)))

-- of two texts that share so many bytes the one with the lesser number behind them stands first
pub sort_key-decides : (t u : List ℕ) (n : ℕ) → BeginAlike t u n → AreBytes t → AreBytes u → sort_key n t < sort_key n u
    → text_cmp (quoted t) (quoted u) ≡ Less
sort_key-decides t u n alike g h lt = past-alike t u n alike ∙ key-decides 8 0 (drop n t) (drop n u) (left-bytes n t g) (left-bytes n u h) lt
  where
    left-bytes : (n : ℕ) (t : List ℕ) → AreBytes t → AreBytes (drop n t)
    left-bytes zero t h = h
    left-bytes (suc n) [] h = no-bytes
    left-bytes (suc n) (b ∷ t) h = left-bytes n t (λ k. h (suc k))

-- ---- the loop over the next bytes

-- one byte more is room for
pub room : (i n b : ℕ) → i < 8 → n < 256 ^ i → b < 256 → n * 256 + b < 2 ^ 64
room zero n b h small byte = omega arith
room (suc zero) n b h small byte = omega arith
room (suc (suc zero)) n b h small byte = omega arith
room (suc (suc (suc zero))) n b h small byte = omega arith
room (suc (suc (suc (suc zero)))) n b h small byte = omega arith
room (suc (suc (suc (suc (suc zero))))) n b h small byte = omega arith
room (suc (suc (suc (suc (suc (suc zero)))))) n b h small byte = omega arith
room (suc (suc (suc (suc (suc (suc (suc zero))))))) n b h small byte = omega arith
room (suc (suc (suc (suc (suc (suc (suc (suc i)))))))) n b h small byte = absurd (omega arith)

-- the number is below the next power
pub more-small : (i n b : ℕ) → n < 256 ^ i → b < 256 → n * 256 + b < 256 ^ (i + 1)
more-small i n b small byte =
    let next : i + 1 ≡ suc i = omega arith in
    let power : 256 ^ (i + 1) ≡ 256 ^ i * 256 = ap (λ k. 256 ^ k) next ∙ pow-suc 256 i in
    omega arith

-- one byte more
pub key-more : (i n : ℕ) (t : List ℕ) → i < 8 → key_from (8 - i) n t ≡ key_from (8 - (i + 1)) (n * 256 + next_byte t) (next_rest t)
key-more i n t h = let left : 8 - i ≡ suc (8 - (i + 1)) = omega arith in ap (λ k. key_from k n t) left
