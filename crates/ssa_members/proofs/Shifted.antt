-- Bytes of numbers that are moved down by whole bytes.
use Rattle.std.proofs.Common.{◌≡◌, ℕ, zero, suc, ◌+◌, ◌-◌, ◌*◌, ◌/◌, ◌%◌, ◌^◌, ◌<◌, ◌≤◌, ◌++◌, List, ◌∷◌, length, min, take, drop, refl, sym, ap, ◌∙◌, ⊎_elim, arith}
use Rattle.std.proofs.Math.Nat.{div-one, pow-suc}
use Rattle.std.proofs.Math.Seq.{take-append-add}
use Rattle.std.proofs.lemmas.Bool.{cases_lt}
use Rattle.std.proofs.lemmas.List.{drop-drop, drop-take, length-drop, length-take, take-append-drop, take-append-le, take-take, take_all, append_assoc}
use Rattle.std.proofs.lemmas.Nat.{pow-add, shr-shr}
use Rattle.std.specs.Int.{byte_at, bytes_low_first}

two_256 : (k : ℕ) → 256 ^ k ≡ 2 ^ (8 * k)
two_256 zero = refl
two_256 (suc k) =
    let more : 8 * k + 8 ≡ 8 * suc k = omega arith in
    pow-suc 256 k ∙ ap (λ p. p * 256) (two_256 k) ∙ sym (pow-add 2 (8 * k) 8) ∙ ap (λ e. 2 ^ e) more

byte_is : (i n : ℕ) → byte_at i n ≡ n / 2 ^ (8 * i) % 256
byte_is zero n = ap (λ m. m % 256) (sym (div-one n))
byte_is (suc i) n = ap (λ p. n / p % 256) (two_256 (suc i))

-- a number that is moved down by c bytes has them from the c-th on
byte-shifted : (c i n : ℕ) → byte_at i (n / 2 ^ (8 * c)) ≡ byte_at (c + i) n
byte-shifted c i n =
    let both : 8 * c + 8 * i ≡ 8 * (c + i) = omega arith in
    byte_is i (n / 2 ^ (8 * c)) ∙ ap (λ m. m % 256) (shr-shr n (8 * c) (8 * i)) ∙ ap (λ e. n / 2 ^ e % 256) both ∙ sym (byte_is (c + i) n)

bytes-shifted : (c i k n : ℕ) → bytes_low_first i k (n / 2 ^ (8 * c)) ≡ bytes_low_first (c + i) k n
bytes-shifted c i zero n = refl
bytes-shifted c i (suc k) n =
    let next : c + suc i ≡ suc (c + i) = omega arith in
    let rest = bytes-shifted c (suc i) k n ∙ ap (λ s. bytes_low_first s k n) next in
    λ j. byte-shifted c i n j ∷ rest j

take-bytes : (i k w n : ℕ) → k ≤ w → take k (bytes_low_first i w n) ≡ bytes_low_first i k n
take-bytes i zero w n le = refl
take-bytes i (suc k) zero n le = absurd (omega arith)
take-bytes i (suc k) (suc w) n le = ap (λ bs. byte_at i n ∷ bs) (take-bytes (suc i) k w n (omega arith))

drop-bytes : (c i w n : ℕ) → c ≤ w → drop c (bytes_low_first i w n) ≡ bytes_low_first (c + i) (w - c) n
drop-bytes zero i w n le =
    let at : i ≡ 0 + i = omega arith in
    let all : w ≡ w - 0 = omega arith in
    λ j. bytes_low_first (at j) (all j) n
drop-bytes (suc c) i zero n le = absurd (omega arith)
drop-bytes (suc c) i (suc w) n le =
    let at : c + suc i ≡ suc c + i = omega arith in
    let left : w - c ≡ suc w - suc c = omega arith in
    drop-bytes c (suc i) w n (omega arith) ∙ (λ j. bytes_low_first (at j) (left j) n)

bytes-down : (c w n : ℕ) → c ≤ w → take (w - c) (bytes_low_first 0 w (n / 2 ^ (8 * c))) ≡ drop c (bytes_low_first 0 w n)
bytes-down c w n le =
    let at : c + 0 ≡ c = omega arith in
    take-bytes 0 (w - c) w (n / 2 ^ (8 * c)) (omega arith) ∙ bytes-shifted c 0 (w - c) n ∙ sym (drop-bytes c 0 w n le)

module _ (w : ℕ) (text : List ℕ) (i start n : ℕ) (long : w ≤ length text) (within : i ≤ length text) (from : start ≡ min i (length text - w))
    (read : bytes_low_first 0 w n ≡ take w (drop start text)) where
  moved-early : i < length text - w → take (length text - i) (bytes_low_first 0 w (n / 2 ^ (8 * (i - start)))) ≡ take w (drop i text)
  moved-early early =
      let at : start ≡ i = omega arith in
      let none : i - start ≡ 0 = omega arith in
      let short : length (take w (drop start text)) ≤ length text - i = omega (arith, length-take w (drop start text)) in
      ap (λ s. take (length text - i) (bytes_low_first 0 w (n / 2 ^ (8 * s)))) none
      ∙ ap (λ m. take (length text - i) (bytes_low_first 0 w m)) (div-one n)
      ∙ ap (take (length text - i)) read
      ∙ take_all (length text - i) (take w (drop start text)) short
      ∙ ap (λ s. take w (drop s text)) at

  moved-late : length text - w ≤ i → take (length text - i) (bytes_low_first 0 w (n / 2 ^ (8 * (i - start)))) ≡ take w (drop i text)
  moved-late late =
      let c = i - start in
      let at : start + c ≡ i = omega arith in
      let left : length text - i ≡ w - c = omega arith in
      let all : w ≡ c + (w - c) = omega arith in
      let rest : length (drop i text) ≤ w - c = omega (arith, length-drop i text) in
      ap (λ m. take m (bytes_low_first 0 w (n / 2 ^ (8 * c)))) left
      ∙ bytes-down c w n (omega arith)
      ∙ ap (drop c) read
      ∙ ap (λ m. drop c (take m (drop start text))) all
      ∙ drop-take c (w - c) (drop start text)
      ∙ ap (take (w - c)) (drop-drop c start text)
      ∙ ap (λ s. take (w - c) (drop s text)) at
      ∙ take_all (w - c) (drop i text) rest
      ∙ sym (take_all w (drop i text) (omega arith))

  -- what is read at a place within the text, or where its last w bytes begin, and moved down to the place
  pub moved-down : take (length text - i) (bytes_low_first 0 w (n / 2 ^ (8 * (i - start)))) ≡ take w (drop i text)
  moved-down = ⊎_elim moved-early moved-late (cases_lt i (length text - w))

take-past : (n : ℕ) (xs ys : List ℕ) → length xs ≤ n → take n (xs ++ ys) ≡ xs ++ take (n - length xs) ys
take-past n xs ys long =
    let all : n ≡ length xs + (n - length xs) = omega arith in
    ap (λ m. take m (xs ++ ys)) all ∙ take-append-add xs ys (n - length xs)

-- a text's first k bytes, and the rest of it with others behind
text-of_both : (text first rest : List ℕ) (k n : ℕ) → length first ≡ k → k ≤ n → first ≡ take k text → take (n - k) rest ≡ drop k text
    → take n (first ++ rest) ≡ text
text-of_both text first rest k n long le begin end =
    take-past n first rest (omega arith)
    ∙ (λ j. begin j ++ (ap (λ m. take (n - m) rest) long ∙ end) j)
    ∙ take-append-drop k text

module _ (text first second third : List ℕ) (many : 8 ≤ length text) (within : length text ≤ 22)
    (first_long : length first ≡ 8) (second_long : length second ≡ 8)
    (at_first : take (length text - 0) first ≡ take 8 (drop 0 text))
    (at_second : take (length text - 6) second ≡ take 8 (drop 6 text))
    (at_third : take (length text - 14) third ≡ take 8 (drop 14 text)) where
  begin : take 6 first ≡ take 6 text
  begin = ap (take 6) (sym (take_all (length text - 0) first (omega arith)) ∙ at_first) ∙ take-take 6 8 text (omega arith)

  few-behind : length text ≤ 14 → take (length text - 6) (second ++ third) ≡ drop 6 text
  few-behind few =
      let short : length (drop 6 text) ≤ 8 = omega (arith, length-drop 6 text) in
      take-append-le (length text - 6) second third (omega arith) ∙ at_second ∙ take_all 8 (drop 6 text) short

  many-behind : 14 ≤ length text → take (length text - 6) (second ++ third) ≡ drop 6 text
  many-behind more =
      let middle = sym (take_all (length text - 6) second (omega arith)) ∙ at_second in
      let short : length (drop 14 text) ≤ 8 = omega (arith, length-drop 14 text) in
      let left : length text - 6 - length second ≡ length text - 14 = omega arith in
      let end = ap (λ m. take m third) left ∙ at_third ∙ take_all 8 (drop 14 text) short ∙ sym (drop-drop 8 6 text) in
      take-past (length text - 6) second third (omega arith)
      ∙ (λ j. middle j ++ end j)
      ∙ take-append-drop 8 (drop 6 text)

  -- a text of eight to twenty-two bytes, of which three numbers have six, eight and eight
  pub text-of_three : take (length text) (take 6 first ++ second ++ third) ≡ text
  text-of_three = ap (take (length text)) (append_assoc (take 6 first) second third) ∙ text-of_both text (take 6 first) (second ++ third) 6 (length text) (length-take 6 first ∙ omega arith) (omega arith) begin
      (⊎_elim (λ few. few-behind (omega arith)) many-behind (cases_lt (length text) 14))
