-- The order of quoted texts, byte by byte.
use Rattle.std.proofs.Common.{◌≡◌, ℕ, ◌/◌, ◌%◌, List, bytes_eq, [], ◌∷◌, ◌++◌, take, Bool, true, false, Ordering, Less, Equal, Greater, refl, sym, ap, ◌∙◌, append_assoc, true≢false, ◌⊎◌, inl, inr, codes, length, drop, get_or, ◌+◌, ◌<◌, ◌≤◌, Option, Some, None, Bor, ltb, ltb-true, arith}
use Rattle.std.specs.Prelude.{is_some, IfSome}
use Rattle.std.specs.Option.{option_copied}
use Rattle.std.proofs.lemmas.Bool.Decides.{nat_tests}
use Rattle.std.proofs.lemmas.List.{drop_more, drop_all}
use Rattle.std.specs.Prelude.{◌==◌, nat_lt, if◌then◌else◌}
use Rattle.std.specs.Ordering.{ordering_then}
use Rattle.std.specs.FinMap.{slice_cmp-IsAntisymmetric, nat_cmp-IsAntisymmetric}
use Rattle.ssa_model.specs.definitions.Json.{hex_digit, escaped_byte, escaped, quoted, text}
use Rattle.std.specs.Cmp.{tied_itself}
use Rattle.std.specs.Cmp.Lexicographic.{nat_list_cmp_total, bytes_decides}
use Rattle.ssa_model.specs.definitions.Path.{Element, value}
use Rattle.ssa_model.proofs.Texts.{element_text-injective}
use Rattle.std.proofs.Math.Seq.{take-add}
use Rattle.std.proofs.lemmas.List.{take-append-drop}
use Rattle.ssa_path.specs.Order.{first, mark, BeginAlike}
use Rattle.ssa_path.proofs.Parts.{text_cmp, AreWords, cmp-words}
use Rattle.ssa_model.proofs.Basics.{same-tails as tails}

choice : (P : List ℕ → Type 0) (b : Bool) (u v : List ℕ) → P u → (b ≡ false → P v) → P (if b then u else v)
choice P true u v p q = p
choice P false u v p q = q refl

-- the three forms that a byte of a text has in quotes
escaped-cases : (P : List ℕ → Type 0) → ((c : ℕ) → (c == 117) ≡ false → P (92 ∷ c ∷ [])) → ((h l : ℕ) → P (92 ∷ 117 ∷ 48 ∷ 48 ∷ h ∷ l ∷ []))
    → ((b : ℕ) → (b == 34) ≡ false → (b == 92) ≡ false → P (b ∷ [])) → (b : ℕ) → P (escaped_byte b)
escaped-cases P two six one b =
    choice P (b == 34) _ _ (two 34 refl) (λ quote.
    choice P (b == 92) _ _ (two 92 refl) (λ slash.
    choice P (b == 8) _ _ (two 98 refl) (λ _.
    choice P (b == 9) _ _ (two 116 refl) (λ _.
    choice P (b == 10) _ _ (two 110 refl) (λ _.
    choice P (b == 12) _ _ (two 102 refl) (λ _.
    choice P (b == 13) _ _ (two 114 refl) (λ _.
    choice P (nat_lt b 32) _ _ (six (hex_digit (b / 16)) (hex_digit (b % 16))) (λ _.
    one b quote slash))))))))

-- the first escape of a text
abbrev after_slash : List ℕ → List ℕ
after_slash [] = []
after_slash (c ∷ u) = 92 ∷ c ∷ (if c == 117 then take 4 u else [])

abbrev word : List ℕ → List ℕ
word [] = []
word (b ∷ u) = if b == 92 then after_slash u else b ∷ []

word-escaped : (b : ℕ) (r : List ℕ) → word (escaped_byte b ++ r) ≡ escaped_byte b
word-escaped b r =
    escaped-cases (λ w. word (w ++ r) ≡ w)
    (λ c e. ap (λ t. 92 ∷ c ∷ (if t then take 4 r else [])) e)
    (λ h l. refl)
    (λ c quote slash. ap (λ t. if t then after_slash r else c ∷ []) slash) b

abbrev opens_quote : List ℕ → Bool
opens_quote [] = false
opens_quote (b ∷ u) = b == 34

no_quote : (b : ℕ) → opens_quote (escaped_byte b) ≡ false
no_quote b = escaped-cases (λ w. opens_quote w ≡ false) (λ c e. refl) (λ h l. refl) (λ c quote slash. quote) b

escapes-words : (b c : ℕ) → AreWords (escaped_byte b) (escaped_byte c)
escapes-words b c r s e = sym (word-escaped b r) ∙ ap word e ∙ word-escaped c s

quote-words : (b : ℕ) → AreWords (34 ∷ []) (escaped_byte b)
quote-words b r s e = ap word e ∙ word-escaped b s

quote-words-own : (b : ℕ) → AreWords (escaped_byte b) (34 ∷ [])
quote-words-own b r s e = sym (word-escaped b r) ∙ ap word e

-- what is left of a quoted text
abbrev pub quoted_end : List ℕ → List ℕ
quoted_end t = escaped t ++ 34 ∷ []

-- ties are equal texts
pub tied : (a b : List ℕ) → text_cmp a b ≡ Equal → a ≡ b
tied = slice_cmp-IsAntisymmetric nat_cmp-IsAntisymmetric

not_tied : (o q : Ordering) → (o ≡ Equal → ⊥) → ordering_then o q ≡ o
not_tied Less q h = refl
not_tied Equal q h = absurd (h refl)
not_tied Greater q h = refl

quote_apart : (b : ℕ) → 34 ∷ [] ≡ escaped_byte b → ⊥
quote_apart b e = true≢false (ap opens_quote e ∙ no_quote b)

itself : (a : List ℕ) → text_cmp a a ≡ Equal
itself a = tied_itself nat_list_cmp_total a

parted : (b : ℕ) (a : List ℕ) → quoted_end (b ∷ a) ≡ escaped_byte b ++ quoted_end a
parted b a = append_assoc (escaped_byte b) (escaped a) (34 ∷ [])

cmp-escapes : (b c : ℕ) (a d : List ℕ) → text_cmp (quoted_end (b ∷ a)) (quoted_end (c ∷ d))
    ≡ ordering_then (text_cmp (escaped_byte b) (escaped_byte c)) (text_cmp (quoted_end a) (quoted_end d))
cmp-escapes b c a d = (λ i. text_cmp (parted b a i) (parted c d i))
    ∙ cmp-words (escaped_byte b) (escaped_byte c) (quoted_end a) (quoted_end d) (escapes-words b c)

-- behind one byte, what is left of both texts decides
pub end-same : (b : ℕ) (a d : List ℕ) → text_cmp (quoted_end (b ∷ a)) (quoted_end (b ∷ d)) ≡ text_cmp (quoted_end a) (quoted_end d)
end-same b a d = cmp-escapes b b a d ∙ ap (λ o. ordering_then o (text_cmp (quoted_end a) (quoted_end d))) (itself (escaped_byte b))

abbrev one_byte : ℕ → Element
one_byte b = value (text (b ∷ []))

abbrev byte_of : Element → ℕ
byte_of (value (text (b ∷ bs))) = b
byte_of _ = 0

escaped_byte-injective : (b c : ℕ) → escaped_byte b ≡ escaped_byte c → b ≡ c
escaped_byte-injective b c e = ap byte_of (element_text-injective (one_byte b) (one_byte c) (ap (λ w. codes "v:" ++ 34 ∷ ((w ++ []) ++ 34 ∷ [])) e))

-- where the first bytes differ, their escapes decide
pub end-differ : (b c : ℕ) (a d : List ℕ) → (b ≡ c → ⊥) → text_cmp (quoted_end (b ∷ a)) (quoted_end (c ∷ d)) ≡ text_cmp (escaped_byte b) (escaped_byte c)
end-differ b c a d apart = cmp-escapes b c a d ∙ not_tied _ _ (λ e. apart (escaped_byte-injective b c (tied (escaped_byte b) (escaped_byte c) e)))

end-other : (c : ℕ) (d : List ℕ) → text_cmp (quoted_end []) (quoted_end (c ∷ d)) ≡ text_cmp (34 ∷ []) (escaped_byte c)
end-other c d =
    ap (text_cmp (34 ∷ [])) (parted c d) ∙ cmp-words (34 ∷ []) (escaped_byte c) [] (quoted_end d) (quote-words c)
    ∙ not_tied _ _ (λ e. quote_apart c (tied (34 ∷ []) (escaped_byte c) e))

end-own : (b : ℕ) (a : List ℕ) → text_cmp (quoted_end (b ∷ a)) (quoted_end []) ≡ text_cmp (escaped_byte b) (34 ∷ [])
end-own b a =
    ap (λ w. text_cmp w (34 ∷ [])) (parted b a) ∙ cmp-words (escaped_byte b) (34 ∷ []) (quoted_end a) [] (quote-words-own b)
    ∙ not_tied _ _ (λ e. quote_apart b (sym (tied (escaped_byte b) (34 ∷ []) e)))

-- where one text has ended, its closing quote decides
pub end-marks : (a d : List ℕ) → (a ≡ []) ⊎ (d ≡ []) → text_cmp (quoted_end a) (quoted_end d) ≡ text_cmp (mark (first a)) (mark (first d))
end-marks [] [] h = refl
end-marks [] (c ∷ d) h = end-other c d
end-marks (b ∷ a) [] h = end-own b a
end-marks (b ∷ a) (c ∷ d) (inl e) = cc
end-marks (b ∷ a) (c ∷ d) (inr e) = cc

cancel : (w u v : List ℕ) → w ++ u ≡ w ++ v → u ≡ v
cancel [] u v e = e
cancel (x ∷ w) u v e = cancel w u v (tails x x (w ++ u) (w ++ v) e)

-- words after words
pub words-append : (a b c d : List ℕ) → AreWords a b → AreWords c d → AreWords (a ++ c) (b ++ d)
words-append a b c d g h r s e =
    let whole = sym (append_assoc a c r) ∙ e ∙ append_assoc b d s in
    let same : a ≡ b = g (c ++ r) (d ++ s) whole in
    let rest : c ++ r ≡ d ++ s = cancel a (c ++ r) (d ++ s) (whole ∙ ap (λ w. w ++ (d ++ s)) (sym same)) in
    λ i. same i ++ h r s rest i

end-words : (a d : List ℕ) → AreWords (quoted_end a) (quoted_end d)
end-words [] [] r s e = refl
end-words [] (c ∷ d) r s e = absurd (quote_apart c (quote-words c r (quoted_end d ++ s) (e ∙ ap (λ w. w ++ s) (parted c d)
    ∙ append_assoc (escaped_byte c) (quoted_end d) s)))
end-words (b ∷ a) [] r s e = absurd (quote_apart b (quote-words b s (quoted_end a ++ r) (sym e ∙ ap (λ w. w ++ r) (parted b a)
    ∙ append_assoc (escaped_byte b) (quoted_end a) r)))
end-words (b ∷ a) (c ∷ d) r s e =
    let joined = words-append (escaped_byte b) (escaped_byte c) (quoted_end a) (quoted_end d) (escapes-words b c) (λ u v q. end-words a d u v q) in
    parted b a ∙ joined r s (ap (λ w. w ++ r) (sym (parted b a)) ∙ e ∙ ap (λ w. w ++ s) (parted c d)) ∙ sym (parted c d)

-- where two quoted texts begin one text, they are one
pub quoted-words : (a d : List ℕ) → AreWords (quoted a) (quoted d)
quoted-words a d r s e = ap (λ w. 34 ∷ w) (end-words a d r s (tails 34 34 _ _ e))

-- ---- a place in two texts

same-heads : (b c : ℕ) (a d : List ℕ) → b ≡ c → text_cmp (quoted_end (b ∷ a)) (quoted_end (c ∷ d)) ≡ text_cmp (quoted_end a) (quoted_end d)
same-heads b c a d e = ap (λ x. text_cmp (quoted_end (b ∷ a)) (quoted_end (x ∷ d))) (sym e) ∙ end-same b a d

-- where the bytes at a place are one, what is behind it decides
pub same-at : (a d : List ℕ) (i : ℕ) → i < length a → i < length d → get_or a i 0 ≡ get_or d i 0
    → text_cmp (quoted_end (drop i a)) (quoted_end (drop i d)) ≡ text_cmp (quoted_end (drop (i + 1) a)) (quoted_end (drop (i + 1) d))
same-at a d i g h e =
    (λ j. text_cmp (quoted_end (drop_more a i 0 g j)) (quoted_end (drop_more d i 0 h j)))
    ∙ same-heads (get_or a i 0) (get_or d i 0) (drop (i + 1) a) (drop (i + 1) d) e

-- where the bytes at a place differ, their escapes decide
pub differ-at : (a d : List ℕ) (i : ℕ) → i < length a → i < length d → (get_or a i 0 ≡ get_or d i 0 → ⊥)
    → text_cmp (quoted_end (drop i a)) (quoted_end (drop i d)) ≡ text_cmp (escaped_byte (get_or a i 0)) (escaped_byte (get_or d i 0))
differ-at a d i g h apart =
    (λ j. text_cmp (quoted_end (drop_more a i 0 g j)) (quoted_end (drop_more d i 0 h j)))
    ∙ end-differ (get_or a i 0) (get_or d i 0) (drop (i + 1) a) (drop (i + 1) d) apart

-- where one text has ended, what comes next decides: an escape, or the closing quote
pub marks-at : (a d : List ℕ) (i : ℕ) → (length a ≤ i) ⊎ (length d ≤ i)
    → text_cmp (quoted_end (drop i a)) (quoted_end (drop i d)) ≡ text_cmp (mark (first (drop i a))) (mark (first (drop i d)))
marks-at a d i (inl h) = end-marks (drop i a) (drop i d) (inl (drop_all i a h))
marks-at a d i (inr h) = end-marks (drop i a) (drop i d) (inr (drop_all i d h))

-- what `get` finds
pub looked : (xs : List ℕ) (i : ℕ) (r : Option (Bor ℕ)) → is_some r ≡ ltb i (length xs) → IfSome r (λ x. x.now ≡ get_or xs i x.now)
    → option_copied r ≡ first (drop i xs)
looked xs i None e h = let past : length xs ≤ i = grind (arith, nat_tests) in ap first (sym (drop_all i xs past))
looked xs i (Some x) e h = ap Some h ∙ ap first (sym (drop_more xs i x.now (ltb-true i (length xs) (sym e))))

-- texts with the same bytes are tied
pub same-told : (a d : List ℕ) → bytes_eq a d ≡ true → Equal ≡ text_cmp (quoted a) (quoted d)
same-told a d h = sym (ap (λ t. text_cmp (quoted a) (quoted t)) (sym ((bytes_decides a d).0 h)) ∙ itself (quoted a))

-- ---- a beginning of two texts

past-same : (p a d : List ℕ) → text_cmp (quoted_end (p ++ a)) (quoted_end (p ++ d)) ≡ text_cmp (quoted_end a) (quoted_end d)
past-same [] a d = refl
past-same (b ∷ p) a d = end-same b (p ++ a) (p ++ d) ∙ past-same p a d

-- what both texts begin with makes no difference
pub past-alike : (a d : List ℕ) (n : ℕ) → BeginAlike a d n → text_cmp (quoted a) (quoted d) ≡ text_cmp (quoted_end (drop n a)) (quoted_end (drop n d))
past-alike a d n h =
    sym (λ i. text_cmp (quoted (take-append-drop n a i)) (quoted (take-append-drop n d i)))
    ∙ ap (λ p. text_cmp (quoted_end (p ++ drop n a)) (quoted_end (take n d ++ drop n d))) h.same
    ∙ past-same (take n d) (drop n a) (drop n d)

-- so many bytes more that are the same
pub alike-more : (a d : List ℕ) (n m : ℕ) → BeginAlike a d n → n + m ≤ length a → n + m ≤ length d → take m (drop n a) ≡ take m (drop n d)
    → BeginAlike a d (n + m)
alike-more a d n m h own others more = record {
  own = own;
  others = others;
  same = take-add n m a ∙ (λ i. h.same i ++ more i) ∙ sym (take-add n m d);
}
