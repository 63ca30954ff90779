-- Texts that are compared a word at a time.
use Rattle.std.proofs.Common.{◌≡◌, ℕ, ◌+◌, ◌-◌, ◌<◌, ◌≤◌, List, length, get_or, take, drop, Bool, true, false, bytes_eq, refl, sym, ap, subst, ◌∙◌, ⊎_elim, true≢false, Equal, arith}
use Rattle.std.proofs.Common.{nat_eq, eqb-true, eq-eqb}
use Rattle.std.proofs.lemmas.Bool.{cases_lt}
use Rattle.std.proofs.lemmas.Bool.Decides.{same_from_decides}
use Rattle.std.proofs.lemmas.Cmp.{nat_list_cmp_total}
use Rattle.std.proofs.lemmas.List.{drop-take, ext_get_or, get_or-drop, get_or-take, length-take-le, take-take}
use Rattle.std.specs.Cmp.{tied_itself}
use Rattle.std.specs.Cmp.Lexicographic.{bytes_decides, slice_cmp}
use Rattle.std.specs.Int.{Width, from_le_bytes, to_le_bytes}
use Rattle.std.specs.Ordering.{nat_cmp}

-- texts of the same bytes are told the same
pub told-same : (a d : List ℕ) → a ≡ d → true ≡ bytes_eq a d
told-same a d same = sym ((bytes_decides a d).1 same)

-- texts that are told the same have the same bytes
same-told : (a d : List ℕ) → bytes_eq a d ≡ true → a ≡ d
same-told a d told = (bytes_decides a d).0 told

-- texts that are told the same are tied
pub tied-told : (a d : List ℕ) → bytes_eq a d ≡ true → Equal ≡ slice_cmp nat_cmp a d
tied-told a d told = sym (ap (slice_cmp nat_cmp a) (sym (same-told a d told)) ∙ tied_itself nat_list_cmp_total a)

-- texts of other bytes are told apart
pub told-apart : (a d : List ℕ) → (a ≡ d → ⊥) → false ≡ bytes_eq a d
told-apart a d apart = by (bytes_eq a d) refl
  where
    by : (b : Bool) → bytes_eq a d ≡ b → false ≡ b
    by true e = absurd (apart ((bytes_decides a d).0 e))
    by false e = refl

-- numbers that are told back from their bytes are the same where the bytes are
pub told-by_words : (w : Width) (m n : ℕ) (bs cs : List ℕ) → to_le_bytes w m ≡ bs → to_le_bytes w n ≡ cs → from_le_bytes w (to_le_bytes w m) ≡ m
    → from_le_bytes w (to_le_bytes w n) ≡ n → nat_eq m n ≡ bytes_eq bs cs
told-by_words w m n bs cs own others back other_back = same_from_decides (nat_eq m n) _ (
  λ same. sym own ∙ ap (to_le_bytes w) (eqb-true m n same) ∙ others,
  λ same. eq-eqb m n (sym back ∙ ap (from_le_bytes w) (own ∙ same ∙ sym others) ∙ other_back),
)
    (bytes_decides bs cs)

module _ (w : ℕ) (a d : List ℕ) where
  -- so many bytes from a place on are the same
  abbrev AreSameAt : ℕ → Type 0
  AreSameAt i = take w (drop i a) ≡ take w (drop i d)

  same-at : (i k : ℕ) → AreSameAt i → i ≤ k → k < i + w → get_or a k 0 ≡ get_or d k 0
  same-at i k same from to =
      let at : i + (k - i) ≡ k = omega arith in
      let within : k - i < w = omega arith in
      let own = get_or-take w (drop i a) (k - i) 0 within ∙ get_or-drop i a (k - i) 0 ∙ ap (λ j. get_or a j 0) at in
      let others = get_or-take w (drop i d) (k - i) 0 within ∙ get_or-drop i d (k - i) 0 ∙ ap (λ j. get_or d j 0) at in
      sym own ∙ ap (λ l. get_or l (k - i) 0) same ∙ others

  -- where the first bytes are the same, the last tell of texts of up to twice as many
  pub told-by_last : length a ≡ length d → w ≤ length a → length a ≤ w + w → bytes_eq (take w (drop 0 a)) (take w (drop 0 d)) ≡ true
      → bytes_eq (take w (drop (length a - w) a)) (take w (drop (length a - w) d)) ≡ bytes_eq a d
  told-by_last long many few first = same_from_decides _ _ (
    λ last. ext_get_or 0 a d long (λ k lt. ⊎_elim
        (λ (low : k < w). same-at 0 k (same-told _ _ first) (omega arith) (omega arith))
        (λ (high : w ≤ k). same-at (length a - w) k (same-told _ _ last) (omega arith) (omega arith))
        (cases_lt k w)),
    λ same. sym (told-same _ _ (ap (λ l. take w (drop (length a - w) l)) same)),
  )
      (bytes_decides a d)

module _ (a d : List ℕ) where
  -- whether the eight bytes from a place on are the same
  abbrev pub are_eight_same : ℕ → Bool
  are_eight_same i = bytes_eq (take 8 (drop i a)) (take 8 (drop i d))

  -- eight bytes within texts that are the same are the same
  eight-within : (n i : ℕ) → i + 8 ≤ n → take n a ≡ take n d → AreSameAt 8 a d i
  eight-within n i within same =
      let own = ap (drop i) (take-take (i + 8) n a within) ∙ drop-take i 8 a in
      let others = ap (drop i) (take-take (i + 8) n d within) ∙ drop-take i 8 d in
      sym own ∙ ap (λ l. drop i (take (i + 8) l)) same ∙ others

  module _ (n m : ℕ) (long : n ≡ m) where
    at_length : {b : Bool} → b ≡ bytes_eq (take n a) (take n d) → b ≡ bytes_eq (take n a) (take m d)
    at_length told = told ∙ ap (λ k. bytes_eq (take n a) (take k d)) long

    -- eight bytes within the texts that are told apart tell them apart
    pub apart-by : (i : ℕ) → i + 8 ≤ n → are_eight_same i ≡ false → false ≡ bytes_eq (take n a) (take m d)
    apart-by i within told = at_length (told-apart _ _ (λ same. true≢false (told-same _ _ (eight-within n i within same) ∙ told)))

    module _ (own : n ≤ length a) (others : n ≤ length d) where
      all-same : ((k : ℕ) → k < n → get_or a k 0 ≡ get_or d k 0) → take n a ≡ take n d
      all-same same =
          let own_long = length-take-le n a own in
          ext_get_or 0 (take n a) (take n d) (own_long ∙ sym (length-take-le n d others)) (λ k lt.
          let within : k < n = subst (λ m. k < m) own_long lt in
          get_or-take n a k 0 within ∙ same k within ∙ sym (get_or-take n d k 0 within))

      -- the first eight bytes tell of up to eight
      pub same-by_first : n ≤ 8 → are_eight_same 0 ≡ true → true ≡ bytes_eq (take n a) (take m d)
      same-by_first few first = at_length (told-same _ _ (all-same (λ k lt. same-at 8 a d 0 k (same-told _ _ first) (omega arith) (omega arith))))

      -- the first eight and the last eight tell of up to sixteen
      pub same-by_two : n ≤ 16 → are_eight_same 0 ≡ true → are_eight_same (n - 8) ≡ true → true ≡ bytes_eq (take n a) (take m d)
      same-by_two few first last = at_length (told-same _ _ (all-same (λ k lt. ⊎_elim
          (λ (low : k < 8). same-at 8 a d 0 k (same-told _ _ first) (omega arith) (omega arith))
          (λ (high : 8 ≤ k). same-at 8 a d (n - 8) k (same-told _ _ last) (omega arith) (omega arith))
          (cases_lt k 8))))

      -- with the eight behind the first they tell of up to twenty-four
      pub told-by_third : 16 ≤ n → n ≤ 24 → are_eight_same 0 ≡ true → are_eight_same (n - 8) ≡ true → are_eight_same 8 ≡ bytes_eq (take n a) (take m d)
      told-by_third many few first last = at_length (same_from_decides (are_eight_same 8) (bytes_eq (take n a) (take n d)) (
        λ second. all-same (λ k lt. ⊎_elim
            (λ (low : k < 8). same-at 8 a d 0 k (same-told _ _ first) (omega arith) (omega arith))
            (λ (high : 8 ≤ k). ⊎_elim
            (λ (low : k < 16). same-at 8 a d 8 k (same-told _ _ second) (omega arith) (omega arith))
            (λ (higher : 16 ≤ k). same-at 8 a d (n - 8) k (same-told _ _ last) (omega arith) (omega arith))
            (cases_lt k 16))
            (cases_lt k 8)),
        λ same. sym (told-same _ _ (eight-within n 8 (omega arith) same)),
      )
          (bytes_decides (take n a) (take n d)))
