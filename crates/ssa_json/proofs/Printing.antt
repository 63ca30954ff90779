-- The compact text of a value is what is printed for its tokens.
use Rattle.std.proofs.Common.{◌≡◌, ℕ, suc, ◌<◌, ◌^◌, nat_eq, ℤ, pos, negsuc, List, [], ◌∷◌, ◌++◌, Bool, true, false, refl, sym, ap, ap₂, ◌∙◌, subst, FitsSigned, w64, to_z, of_z, arith, rules, ltb-true, append-nil, append_assoc}
use Rattle.std.proofs.lemmas.Bool.{eqb-true, and_parts, and_from}
use Rattle.std.proofs.lemmas.Bool.Decides.{nat_tests}
use Rattle.std.proofs.lemmas.Int.{to_z-of_z}
use Rattle.std.proofs.lemmas.Fmt.{PrependsLastDigit, decimal_from_prepends, length-decimal-le_succ}
use Rattle.std.specs.Fmt as fmt
use Rattle.json.specs.Print as print
use Rattle.serde_json.specs.Written as written
use Rattle.serde_json.proofs.Texts.{print-outline}
use Rattle.ssa_model.specs.definitions.Json.{Text, Scalar, text, whole, truth, Items, no_items, item, Members, no_members, member, scalar, list, object, escaped_byte, escaped, quoted, digits_before, decimal, whole_text, scalar_text, comma_if, compact, compact_items, compact_members}
use Rattle.ssa_model.specs.definitions.Json as model
use Rattle.ssa_json.specs.View.{view, items_view, members_view}
use Rattle.ssa_json.specs.Written.{scalar_data, data_of, items_data, members_data, tokens_of, is_narrow_whole, is_narrow_scalar, is_narrow, items_narrow, members_narrow}
use Rattle.ssa_json.specs.declared.value.Json.{Json}
use Rattle.ssa_json.proofs.Converting.{Found}

-- ---- texts

module _ (x : ℕ) where
  abbrev Same : ℕ → Type 0
  Same k = print.escape_byte k ≡ escaped_byte k

  is : (n : ℕ) → nat_eq x n ≡ true → Same n → Same x
  is n e same = subst Same (sym (eqb-true x n e)) same

  other : nat_eq x 34 ≡ false → nat_eq x 92 ≡ false → nat_eq x 8 ≡ false → nat_eq x 9 ≡ false → nat_eq x 10 ≡ false → nat_eq x 12 ≡ false
      → nat_eq x 13 ≡ false → Same x
  unfolding print.escape_byte
  other e34 e92 e8 e9 e10 e12 e13 = rw (e34, e92, e8, e9, e10, e12, e13) refl

  escape_byte-is : Same x
  unfolding print.escape_byte
  escape_byte-is =
      elim (nat_eq x 34) as (λ t. nat_eq x 34 ≡ t → Same x) [
        | true ↦ λ e. is 34 e refl
        | false ↦ λ e34. elim (nat_eq x 92) as (λ t. nat_eq x 92 ≡ t
            → Same x) [
              | true ↦ λ e. is 92 e refl
              | false ↦ λ e92. elim (nat_eq x 8) as (λ t. nat_eq x 8 ≡ t
                  → Same x) [
                    | true ↦ λ e. is 8 e refl
                    | false ↦ λ e8. elim (nat_eq x 9) as (λ t. nat_eq x 9 ≡ t
                        → Same x) [
                          | true ↦ λ e. is 9 e refl
                          | false ↦ λ e9. elim (nat_eq x 10) as (λ t. nat_eq x 10 ≡ t
                              → Same x) [
                                | true ↦ λ e. is 10 e refl
                                | false ↦ λ e10. elim (nat_eq x 12) as (λ t. nat_eq x 12 ≡ t
                                    → Same x) [
                                      | true ↦ λ e. is 12 e refl
                                      | false ↦ λ e12. elim (nat_eq x 13) as (λ t. nat_eq x 13 ≡ t
                                          → Same x) [ true ↦ λ e. is 13 e refl | false ↦ λ e13. other e34 e92 e8 e9 e10 e12 e13 ] refl
                                    ] refl
                              ] refl
                        ] refl
                  ] refl
            ] refl
      ] refl

-- the escapes of a text are those that are printed
pub escape-is : (t : Text) → print.escape t ≡ escaped t
escape-is [] = refl
escape-is (b ∷ bs) = ap₂ (λ t u. t ++ u) (escape_byte-is b) (escape-is bs)

-- a text is printed as its quoted text
pub quoted-is : (t : Text) → print.quoted t ≡ quoted t
quoted-is t = ap (λ u. 34 ∷ (u ++ 34 ∷ [])) (escape-is t)

-- ---- numbers

digits_before-prepends : PrependsLastDigit digits_before
digits_before-prepends = search rules

-- a number below 2 ^ 64 is printed in its decimal digits
pub decimal-is : (n : ℕ) → n < 2 ^ 64 → fmt.decimal n ≡ decimal n
decimal-is n narrow = sym (append-nil (fmt.decimal n)) ∙ sym
    (decimal_from_prepends digits_before digits_before-prepends (suc n) n [] narrow (let short = length-decimal-le_succ n narrow in omega arith))

-- a whole number of 64 bits is printed as its text
pub whole-is : (z : ℤ) → is_narrow_whole z ≡ true → fmt.signed_decimal z ≡ whole_text z
whole-is (pos n) narrow = decimal-is n (let small = ltb-true n (2 ^ 63) narrow in omega arith)
whole-is (negsuc n) narrow = ap (λ t. 45 ∷ t) (decimal-is (suc n) (let small = ltb-true n (2 ^ 63) narrow in omega arith))

-- what fits 64 bits with sign is narrow
pub narrow-fits : (z : ℤ) → FitsSigned w64 z → is_narrow_whole z ≡ true
narrow-fits (pos n) h = let fits = h.sfits in grind (arith, nat_tests)
narrow-fits (negsuc n) h = let fits = h.sfits in grind (arith, nat_tests)

-- a number that is taken from its 64 bits is printed as its text
pub written-is : (z : ℤ) → FitsSigned w64 z → fmt.signed_decimal (to_z w64 (of_z w64 z)) ≡ whole_text z
written-is z h = ap fmt.signed_decimal (to_z-of_z w64 z h) ∙ whole-is z (narrow-fits z h)

-- ---- the text of the data is that of the value

scalar-text : (s : Scalar) → is_narrow_scalar s ≡ true → written.compact_text (scalar_data s) ≡ scalar_text s
scalar-text (text s) narrow = quoted-is s
scalar-text (whole (pos n)) narrow = whole-is (pos n) narrow
scalar-text (whole (negsuc n)) narrow = whole-is (negsuc n) narrow
scalar-text (truth true) narrow = refl
scalar-text (truth false) narrow = refl

mutual
  pub compact_text-data_of : (v : model.Json) → is_narrow v ≡ true → written.compact_text (data_of v) ≡ compact v
  compact_text-data_of (scalar s) narrow = scalar-text s narrow
  compact_text-data_of (list vs) narrow = ap (λ t. 91 ∷ t) (items-text false vs narrow)
  compact_text-data_of (object ms) narrow = ap (λ t. 123 ∷ t) (members-text false ms narrow)

  items-text : (later : Bool) (vs : Items) → items_narrow vs ≡ true → written.items_text later (items_data vs) ≡ compact_items later vs
  items-text later no_items narrow = refl
  items-text later (item v vs) narrow =
      let parts = and_parts (is_narrow v) (items_narrow vs) narrow in
      ap₂ (λ t u. comma_if later ++ (t ++ u)) (compact_text-data_of v parts.0) (items-text true vs parts.1)

  members-text : (later : Bool) (ms : Members) → members_narrow ms ≡ true → written.members_text later (members_data ms) ≡ compact_members later ms
  members-text later no_members narrow = refl
  members-text later (member k v ms) narrow =
      let parts = and_parts (is_narrow v) (members_narrow ms) narrow in
      ap₂ (λ n u. comma_if later ++ (n ++ 58 ∷ u)) (quoted-is k) (ap₂ (λ t u. t ++ u) (compact_text-data_of v parts.0) (members-text true ms parts.1))

-- the tokens of a value with numbers of 64 bits are printed as its compact text
pub print-tokens_of : (v : model.Json) → is_narrow v ≡ true → print.print (tokens_of v) ≡ compact v
print-tokens_of v narrow = print-outline (data_of v) ∙ compact_text-data_of v narrow

-- ---- item by item and member by member

-- with one item more of numbers of 64 bits, the numbers of all items have 64 bits
pub items_narrow-push : (vs : List Json) (v : Json) → items_narrow (items_view vs) ≡ true → is_narrow (view v) ≡ true
    → items_narrow (items_view (vs ++ v ∷ [])) ≡ true
items_narrow-push [] v before here = rw here refl
items_narrow-push (w ∷ vs) v before here =
    let parts = and_parts (is_narrow (view w)) (items_narrow (items_view vs)) before in
    and_from (is_narrow (view w)) _ parts.0 (items_narrow-push vs v parts.1 here)

-- with one member more of numbers of 64 bits, the numbers of all members have 64 bits
pub members_narrow-push : (ms : List Found) (m : Found) → members_narrow (members_view ms) ≡ true → is_narrow (view m.1) ≡ true
    → members_narrow (members_view (ms ++ m ∷ [])) ≡ true
members_narrow-push [] m before here = rw here refl
members_narrow-push (w ∷ ms) m before here =
    let parts = and_parts (is_narrow (view w.1)) (members_narrow (members_view ms)) before in
    and_from (is_narrow (view w.1)) _ parts.0 (members_narrow-push ms m parts.1 here)

-- one item more is written behind those before
pub item-written : (old : Text) {comma new : Text} (later : Bool) (v : model.Json) (vs : Items) → comma ≡ old ++ comma_if later
    → new ≡ comma ++ compact v → new ++ compact_items true vs ≡ old ++ compact_items later (item v vs)
item-written old later v vs behind written =
    let rest = compact_items true vs in
    ap (λ t. t ++ rest) (written ∙ ap (λ t. t ++ compact v) behind) ∙ append_assoc (old ++ comma_if later) (compact v) rest
    ∙ append_assoc old (comma_if later) (compact v ++ rest)

-- so is one member more
pub member-written : (old : Text) {comma name colon new : Text} (later : Bool) (n : Text) (v : model.Json) (ms : Members) → comma ≡ old ++ comma_if later
    → name ≡ comma ++ quoted n → colon ≡ name ++ 58 ∷ [] → new ≡ colon ++ compact v
    → new ++ compact_members true ms ≡ old ++ compact_members later (member n v ms)
member-written old {comma = comma} {name = name} later n v ms behind named colon written =
    let rest = compact_members true ms in
    let value = compact v in
    let key = quoted n in
    ap (λ t. t ++ rest) (written ∙ ap (λ t. t ++ value) colon) ∙ append_assoc (name ++ 58 ∷ []) value rest ∙ append_assoc name (58 ∷ []) (value ++ rest)
    ∙ ap (λ t. t ++ 58 ∷ (value ++ rest)) (named ∙ ap (λ t. t ++ key) behind) ∙ append_assoc (old ++ comma_if later) key (58 ∷ (value ++ rest))
    ∙ append_assoc old (comma_if later) (key ++ 58 ∷ (value ++ rest))
