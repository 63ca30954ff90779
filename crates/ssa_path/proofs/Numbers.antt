-- The texts of numbers and truth values beside each other.
use Rattle.std.proofs.Common.{◌≡◌, ℕ, zero, suc, ◌+◌, ◌/◌, ◌%◌, ◌<◌, List, [], ◌∷◌, ◌++◌, Bool, true, false, ◌&&◌, ◌||◌, not, Less, Greater, refl, sym, ap, ◌∙◌, true≢false, arith, ltb-true, pos, negsuc, ℤ, codes}
use Rattle.std.specs.Prelude.{◌==◌, nat_lt, if◌then◌else◌}
use Rattle.std.proofs.lemmas.Bool.Decides.{nat_tests}
use Rattle.ssa_model.specs.definitions.Json.{Scalar, text, whole, truth, digits_before, decimal, whole_text, scalar_text, escaped, quoted}
use Rattle.ssa_path.proofs.Parts.{text_cmp, AreWords, cmp-words}
use Rattle.std.specs.Ordering.{ordering_then}
use Rattle.ssa_path.proofs.Escapes.{quoted-words, words-append}
use Rattle.ssa_path.proofs.Orders.{both_first, both_second}

-- ---- the first byte of a number

-- behind a quote, and in front of the letters of the truth values
abbrev pub starts_low : List ℕ → Bool
starts_low [] = false
starts_low (b ∷ bs) = nat_lt 34 b && nat_lt b 102

low-digit : (d : ℕ) (r : List ℕ) → d < 10 → starts_low ((48 + d) ∷ r) ≡ true
low-digit d r h = grind (arith, nat_tests)

low-digits : (most n : ℕ) (r : List ℕ) → starts_low r ≡ true → starts_low (digits_before most n r) ≡ true
low-digits zero n r h = h
low-digits (suc most) n r h =
    elim (nat_lt n 10) as (λ t. nat_lt n 10 ≡ t → starts_low (elim t [ true ↦ (48 + n) ∷ r | false ↦ digits_before most (n / 10) ((48 + n % 10) ∷ r) ])
    ≡ true) [
      | true ↦ λ t. low-digit n r (ltb-true n 10 t)
      | false ↦ λ t. low-digits most (n / 10) ((48 + n % 10) ∷ r) (low-digit (n % 10) r (omega arith))
    ] refl

low-decimal : (n : ℕ) → starts_low (decimal n) ≡ true
low-decimal n =
    elim (nat_lt n 10) as (λ t. nat_lt n 10 ≡ t → starts_low (elim t [ true ↦ (48 + n) ∷ [] | false ↦ digits_before n (n / 10) ((48 + n % 10) ∷ []) ]) ≡ true) [
      | true ↦ λ t. low-digit n [] (ltb-true n 10 t)
      | false ↦ λ t. low-digits n (n / 10) ((48 + n % 10) ∷ []) (low-digit (n % 10) [] (omega arith))
    ] refl

low-append : (a r : List ℕ) → starts_low a ≡ true → starts_low (a ++ r) ≡ true
low-append [] r h = absurd (true≢false (sym h))
low-append (b ∷ a) r h = h

-- the text of a whole number starts low
pub low-whole : (z : ℤ) (r : List ℕ) → starts_low (whole_text z ++ r) ≡ true
low-whole (pos n) r = low-append (decimal n) r (low-decimal n)
low-whole (negsuc n) r = refl

first-below : (x y : ℕ) (a b : List ℕ) → nat_lt x y ≡ true → text_cmp (x ∷ a) (y ∷ b) ≡ Less
first-below x y a b h = let e : nat_lt x y ≡ true = h in rw e

first-above : (x y : ℕ) (a b : List ℕ) → nat_lt y x ≡ true → text_cmp (x ∷ a) (y ∷ b) ≡ Greater
first-above x y a b h =
    let less : nat_lt x y ≡ false = grind (arith, nat_tests) in
    let apart : (x == y) ≡ false = grind (arith, nat_tests) in
    rw (less, apart)

-- a quote stands before what starts low
pub quote-low : (a v : List ℕ) → starts_low v ≡ true → text_cmp (34 ∷ a) v ≡ Less
quote-low a [] h = absurd (true≢false (sym h))
quote-low a (b ∷ v) h = first-below 34 b a v (both_first (nat_lt 34 b) (nat_lt b 102) h)

-- what starts low stands behind a quote
pub low-quote : (a v : List ℕ) → starts_low v ≡ true → text_cmp v (34 ∷ a) ≡ Greater
low-quote a [] h = absurd (true≢false (sym h))
low-quote a (b ∷ v) h = first-above b 34 v a (both_first (nat_lt 34 b) (nat_lt b 102) h)

letter_more : (b x : ℕ) → nat_lt b 102 ≡ true → nat_lt 101 x ≡ true → nat_lt b x ≡ true
letter_more b x h g = grind (arith, nat_tests)

-- what starts low stands before the letters of the truth values
pub low-letter : (x : ℕ) (a v : List ℕ) → nat_lt 101 x ≡ true → starts_low v ≡ true → text_cmp v (x ∷ a) ≡ Less
low-letter x a [] g h = absurd (true≢false (sym h))
low-letter x a (b ∷ v) g h = first-below b x v a (letter_more b x (both_second (nat_lt 34 b) (nat_lt b 102) h) g)

-- the letters of the truth values stand behind what starts low
pub letter-low : (x : ℕ) (a v : List ℕ) → nat_lt 101 x ≡ true → starts_low v ≡ true → text_cmp (x ∷ a) v ≡ Greater
letter-low x a [] g h = absurd (true≢false (sym h))
letter-low x a (b ∷ v) g h = first-above x b a v (letter_more b x (both_second (nat_lt 34 b) (nat_lt b 102) h) g)

-- ---- a scalar with what ends it in an object

-- a comma or a closing brace
abbrev pub is_end : ℕ → Bool
is_end b = (b == 44) || (b == 125)

-- up to the first comma or closing brace
abbrev up_to_end : List ℕ → List ℕ
up_to_end [] = []
up_to_end (b ∷ bs) = b ∷ (if is_end b then [] else up_to_end bs)

abbrev is_plain : List ℕ → Bool
is_plain [] = true
is_plain (b ∷ bs) = not (is_end b) && is_plain bs

plain-up : (a r : List ℕ) (t : ℕ) → is_plain a ≡ true → is_end t ≡ true → up_to_end ((a ++ t ∷ []) ++ r) ≡ a ++ t ∷ []
plain-up [] r t h e = ap (λ b. t ∷ (if b then [] else up_to_end r)) e
plain-up (b ∷ a) r t h e =
    ap (λ u. b ∷ u) (goes (is_end b) (is_plain a) (up_to_end ((a ++ t ∷ []) ++ r)) h ∙ plain-up a r t (both_second (not (is_end b)) (is_plain a) h) e)
  where
    goes : (x y : Bool) (u : List ℕ) → (not x && y) ≡ true → (if x then [] else u) ≡ u
    goes true y u q = absurd (true≢false (sym q))
    goes false y u q = refl

plain-words : (a b : List ℕ) (t u : ℕ) → is_plain a ≡ true → is_plain b ≡ true → is_end t ≡ true → is_end u ≡ true → AreWords (a ++ t ∷ []) (b ++ u ∷ [])
plain-words a b t u g h d e r s q = sym (plain-up a r t g d) ∙ ap up_to_end q ∙ plain-up b s u h e

plain-digit : (d : ℕ) (r : List ℕ) → d < 10 → is_plain r ≡ true → is_plain ((48 + d) ∷ r) ≡ true
plain-digit d r h g = let e : is_end (48 + d) ≡ false = grind (arith, nat_tests) in rw (e, g)

plain-digits : (most n : ℕ) (r : List ℕ) → is_plain r ≡ true → is_plain (digits_before most n r) ≡ true
plain-digits zero n r h = h
plain-digits (suc most) n r h =
    elim (nat_lt n 10) as (λ t. nat_lt n 10 ≡ t → is_plain (elim t [ true ↦ (48 + n) ∷ r | false ↦ digits_before most (n / 10) ((48 + n % 10) ∷ r) ]) ≡ true) [
      | true ↦ λ t. plain-digit n r (ltb-true n 10 t) h
      | false ↦ λ t. plain-digits most (n / 10) ((48 + n % 10) ∷ r) (plain-digit (n % 10) r (omega arith) h)
    ] refl

plain-whole : (z : ℤ) → is_plain (whole_text z) ≡ true
plain-whole (pos n) = plain-digits (suc n) n [] refl
plain-whole (negsuc n) = plain-digits (suc (suc n)) (suc n) [] refl

ends-words : (t u : ℕ) → AreWords (t ∷ []) (u ∷ [])
ends-words t u r s e = let same : t ≡ u = cc in ap (λ x. x ∷ []) same

plain-truth : (b : Bool) → is_plain (scalar_text (truth b)) ≡ true
plain-truth true = refl
plain-truth false = refl

abbrev opens_quote : List ℕ → Bool
opens_quote [] = false
opens_quote (b ∷ u) = b == 34

low-no_quote : (v : List ℕ) → starts_low v ≡ true → opens_quote v ≡ false
low-no_quote [] h = refl
low-no_quote (b ∷ v) h = let low = both_first (nat_lt 34 b) (nat_lt b 102) h in grind (arith, nat_tests)

apart : {X : Type 0} (v w : List ℕ) → opens_quote v ≡ true → opens_quote w ≡ false → v ≡ w → X
apart v w g h e = absurd (true≢false (sym g ∙ ap opens_quote e ∙ h))

whole-no_quote : (z : ℤ) (t : ℕ) (s : List ℕ) → opens_quote ((whole_text z ++ t ∷ []) ++ s) ≡ false
whole-no_quote z t s = low-no_quote ((whole_text z ++ t ∷ []) ++ s) (low-append (whole_text z ++ t ∷ []) s (low-whole z (t ∷ [])))

truth-no_quote : (b : Bool) (t : ℕ) (s : List ℕ) → opens_quote ((scalar_text (truth b) ++ t ∷ []) ++ s) ≡ false
truth-no_quote true t s = refl
truth-no_quote false t s = refl

-- a comma or a closing brace behind them, scalars are words
pub scalar-words : (y z : Scalar) (t u : ℕ) → is_end t ≡ true → is_end u ≡ true → AreWords (scalar_text y ++ t ∷ []) (scalar_text z ++ u ∷ [])
scalar-words (text a) (text b) t u d e = words-append (quoted a) (quoted b) (t ∷ []) (u ∷ []) (quoted-words a b) (ends-words t u)
scalar-words (whole a) (whole b) t u d e = plain-words (whole_text a) (whole_text b) t u (plain-whole a) (plain-whole b) d e
scalar-words (truth a) (truth b) t u d e = plain-words (scalar_text (truth a)) (scalar_text (truth b)) t u (plain-truth a) (plain-truth b) d e
scalar-words (whole a) (truth b) t u d e = plain-words (whole_text a) (scalar_text (truth b)) t u (plain-whole a) (plain-truth b) d e
scalar-words (truth a) (whole b) t u d e = plain-words (scalar_text (truth a)) (whole_text b) t u (plain-truth a) (plain-whole b) d e
scalar-words (text a) (whole b) t u d e = λ r s q. apart ((quoted a ++ t ∷ []) ++ r) ((whole_text b ++ u ∷ []) ++ s) refl (whole-no_quote b u s) q
scalar-words (text a) (truth b) t u d e = λ r s q. apart ((quoted a ++ t ∷ []) ++ r) ((scalar_text (truth b) ++ u ∷ []) ++ s) refl (truth-no_quote b u s) q
scalar-words (whole a) (text b) t u d e = λ r s q. apart ((quoted b ++ u ∷ []) ++ s) ((whole_text a ++ t ∷ []) ++ r) refl (whole-no_quote a t r) (sym q)
scalar-words (truth a) (text b) t u d e = λ r s q. apart ((quoted b ++ u ∷ []) ++ s) ((scalar_text (truth a) ++ t ∷ []) ++ r) refl (truth-no_quote a t r)
    (sym q)

-- ---- how scalars of different sorts compare

-- quoted texts decide, and then what follows them
pub quoted-cmp : (a b e f : List ℕ) → text_cmp (quoted a ++ e) (quoted b ++ f) ≡ ordering_then (text_cmp (quoted a) (quoted b)) (text_cmp e f)
quoted-cmp a b e f = cmp-words (quoted a) (quoted b) e f (quoted-words a b)

-- a number stands before a truth value, whatever follows
pub number-before : (z : ℤ) (b : Bool) (e f : List ℕ) → text_cmp (scalar_text (whole z) ++ e) (scalar_text (truth b) ++ f) ≡ Less
number-before z true e f = low-letter 116 (codes "rue" ++ f) (whole_text z ++ e) refl (low-whole z e)
number-before z false e f = low-letter 102 (codes "alse" ++ f) (whole_text z ++ e) refl (low-whole z e)

-- a truth value stands behind a number, whatever follows
pub number-behind : (z : ℤ) (b : Bool) (e f : List ℕ) → text_cmp (scalar_text (truth b) ++ e) (scalar_text (whole z) ++ f) ≡ Greater
number-behind z true e f = letter-low 116 (codes "rue" ++ e) (whole_text z ++ f) refl (low-whole z f)
number-behind z false e f = letter-low 102 (codes "alse" ++ e) (whole_text z ++ f) refl (low-whole z f)

-- a text stands before a number, whatever follows
pub text-number : (a : List ℕ) (z : ℤ) (e f : List ℕ) → text_cmp (quoted a ++ e) (scalar_text (whole z) ++ f) ≡ Less
text-number a z e f = quote-low ((escaped a ++ 34 ∷ []) ++ e) (whole_text z ++ f) (low-whole z f)

-- a number stands behind a text, whatever follows
pub number-text : (z : ℤ) (b e f : List ℕ) → text_cmp (scalar_text (whole z) ++ e) (quoted b ++ f) ≡ Greater
number-text z b e f = low-quote ((escaped b ++ 34 ∷ []) ++ f) (whole_text z ++ e) (low-whole z e)
