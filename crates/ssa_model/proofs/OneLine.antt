-- The compact text of a value is one line: it has no line feed.
use Rattle.std.proofs.Common.{◌≡◌, ◌≢◌, ℕ, zero, suc, ◌+◌, ◌/◌, ◌%◌, [], ◌∷◌, Bool, true, false, pos, negsuc, refl, arith, nat_eq, nat_lt}
use Rattle.std.specs.Prelude.{if◌then◌else◌, ℤ}
use Rattle.std.proofs.lemmas.Bool.Decides.{nat_tests}
use Rattle.std.proofs.lemmas.Bool.{eqb-false}
use Rattle.ssa_model.specs.definitions.Json.{Text, Scalar, text, whole, truth, Json, scalar, list, object, Items, no_items, item, Members, no_members, member, hex_digit, escaped_byte, escaped, quoted, digits_before, decimal, whole_text, scalar_text, comma_if, compact, compact_items, compact_members}
use Rattle.ssa_model.specs.definitions.Lines.{line_feed, HasNoLineFeed}
use Rattle.ssa_model.proofs.LinesFacts.{HasNoLineFeed-append}

other : (b : ℕ) → nat_eq b line_feed ≡ false → b ≢ line_feed
other b h = eqb-false b line_feed h

-- ---- a byte of a quoted text

chosen : (b : Bool) (x y : Text) → HasNoLineFeed x → (b ≡ false → HasNoLineFeed y) → HasNoLineFeed (if b then x else y)
chosen true x y p q = p
chosen false x y p q = q refl

hex_digit-plain : (d : ℕ) → hex_digit d ≢ line_feed
hex_digit-plain d = grind (arith, nat_tests)

escape-plain : (c : ℕ) → c ≢ line_feed → HasNoLineFeed (92 ∷ c ∷ [])
escape-plain c h = (other 92 refl, (h, tt))

numbered-plain : (b : ℕ) → HasNoLineFeed (92 ∷ 117 ∷ 48 ∷ 48 ∷ hex_digit (b / 16) ∷ hex_digit (b % 16) ∷ [])
numbered-plain b = (other 92 refl, (other 117 refl, (other 48 refl, (other 48 refl, (hex_digit-plain (b / 16), (hex_digit-plain (b % 16), tt))))))

escaped_byte-plain : (b : ℕ) → HasNoLineFeed (escaped_byte b)
escaped_byte-plain b =
    chosen (nat_eq b 34) _ _ (escape-plain 34 (other 34 refl)) (λ _.
    chosen (nat_eq b 92) _ _ (escape-plain 92 (other 92 refl)) (λ _.
    chosen (nat_eq b 8) _ _ (escape-plain 98 (other 98 refl)) (λ _.
    chosen (nat_eq b 9) _ _ (escape-plain 116 (other 116 refl)) (λ _.
    chosen (nat_eq b 10) _ _ (escape-plain 110 (other 110 refl)) (λ apart.
    chosen (nat_eq b 12) _ _ (escape-plain 102 (other 102 refl)) (λ _.
    chosen (nat_eq b 13) _ _ (escape-plain 114 (other 114 refl)) (λ _.
    chosen (nat_lt b 32) _ _ (numbered-plain b) (λ _. (other b apart, tt)))))))))

escaped-plain : (t : Text) → HasNoLineFeed (escaped t)
escaped-plain [] = tt
escaped-plain (b ∷ bs) = HasNoLineFeed-append (escaped_byte b) (escaped bs) (escaped_byte-plain b) (escaped-plain bs)

quoted-plain : (t : Text) → HasNoLineFeed (quoted t)
quoted-plain t = (other 34 refl, HasNoLineFeed-append (escaped t) (34 ∷ []) (escaped-plain t) (other 34 refl, tt))

-- ---- numbers

digit-plain : (n : ℕ) → 48 + n ≢ line_feed
digit-plain n e = omega (arith, e)

digits_before-plain : (most n : ℕ) (rest : Text) → HasNoLineFeed rest → HasNoLineFeed (digits_before most n rest)
digits_before-plain zero n rest h = h
digits_before-plain (suc most) n rest h =
    elim (nat_lt n 10) as (λ t. HasNoLineFeed (elim t [ true ↦ (48 + n) ∷ rest | false ↦ digits_before most (n / 10) ((48 + n % 10) ∷ rest) ])) [
      | true ↦ (digit-plain n, h)
      | false ↦ digits_before-plain most (n / 10) ((48 + n % 10) ∷ rest) (digit-plain (n % 10), h)
    ]

decimal-plain : (n : ℕ) → HasNoLineFeed (decimal n)
decimal-plain n = digits_before-plain (suc n) n [] tt

whole_text-plain : (z : ℤ) → HasNoLineFeed (whole_text z)
whole_text-plain (pos n) = decimal-plain n
whole_text-plain (negsuc n) = (other 45 refl, decimal-plain (suc n))

scalar_text-plain : (s : Scalar) → HasNoLineFeed (scalar_text s)
scalar_text-plain (text t) = quoted-plain t
scalar_text-plain (whole z) = whole_text-plain z
scalar_text-plain (truth true) = (other 116 refl, (other 114 refl, (other 117 refl, (other 101 refl, tt))))
scalar_text-plain (truth false) = (other 102 refl, (other 97 refl, (other 108 refl, (other 115 refl, (other 101 refl, tt)))))

-- ---- values

comma_if-plain : (later : Bool) → HasNoLineFeed (comma_if later)
comma_if-plain later = chosen later (44 ∷ []) [] (other 44 refl, tt) (λ _. tt)

mutual
  -- the text of a value has no line feed
  pub compact-plain : (v : Json) → HasNoLineFeed (compact v)
  compact-plain (scalar s) = scalar_text-plain s
  compact-plain (list vs) = (other 91 refl, compact_items-plain false vs)
  compact-plain (object ms) = (other 123 refl, compact_members-plain false ms)

  compact_items-plain : (later : Bool) (vs : Items) → HasNoLineFeed (compact_items later vs)
  compact_items-plain later no_items = (other 93 refl, tt)
  compact_items-plain later (item v vs) =
      HasNoLineFeed-append (comma_if later) _ (comma_if-plain later)
      (HasNoLineFeed-append (compact v) (compact_items true vs) (compact-plain v) (compact_items-plain true vs))

  compact_members-plain : (later : Bool) (ms : Members) → HasNoLineFeed (compact_members later ms)
  compact_members-plain later no_members = (other 125 refl, tt)
  compact_members-plain later (member n v ms) =
      HasNoLineFeed-append (comma_if later) _ (comma_if-plain later)
      (HasNoLineFeed-append (quoted n) _ (quoted-plain n)
      (other 58 refl, HasNoLineFeed-append (compact v) (compact_members true ms) (compact-plain v) (compact_members-plain true ms)))
