-- Texts in quotes that stand within a text in quotes.
use Rattle.std.proofs.Common.{◌≡◌, ℕ, zero, suc, ◌+◌, ◌/◌, ◌%◌, ◌<◌, [], ◌∷◌, ◌++◌, Bool, true, false, pos, negsuc, ℤ, refl, sym, ap, ◌∙◌, append_assoc, length, get_or, arith, ltb-true}
use Rattle.std.specs.Prelude.{nat_lt}
use Rattle.std.proofs.lemmas.Bool.Decides.{nat_tests}
use Rattle.ssa_members.specs.declared.small_text.SmallText.{SmallText}
use Rattle.ssa_model.specs.definitions.Json.{Text, escaped_byte, escaped, quoted, comma_if, digits_before, whole_text}
use Rattle.ssa_json.specs.declared.value.Scalar.{Scalar}
use Rattle.ssa_path.proofs.Texts.{Fields, text_from, member_piece, text_from-more}

-- one text behind another
escaped-append : (a b : Text) → escaped (a ++ b) ≡ escaped a ++ escaped b
escaped-append [] b = refl
escaped-append (x ∷ a) b = ap (λ t. escaped_byte x ++ t) (escaped-append a b) ∙ sym (append_assoc (escaped_byte x) (escaped a) (escaped b))

-- a string that needs no escapes: those of its quotes alone
pub escaped-quoted : (t : Text) → escaped t ≡ t → escaped (quoted t) ≡ 92 ∷ 34 ∷ (t ++ 92 ∷ 34 ∷ [])
escaped-quoted t plain =
    ap (λ u. escaped (34 ∷ (u ++ 34 ∷ []))) plain ∙ ap (λ u. 92 ∷ 34 ∷ u) (escaped-append t (34 ∷ []) ∙ ap (λ u. u ++ 92 ∷ 34 ∷ []) plain)

-- ---- numbers

-- no byte of the text needs an escape
abbrev IsPlain : Text → Type 0
IsPlain t = escaped t ≡ t

digit-plain : (d : ℕ) → d < 10 → escaped_byte (48 + d) ≡ (48 + d) ∷ []
digit-plain d h = grind (arith, nat_tests)

digits-more : (d : ℕ) (rest : Text) → d < 10 → IsPlain rest → IsPlain ((48 + d) ∷ rest)
digits-more d rest h plain = λ i. digit-plain d h i ++ plain i

digits-plain : (most n : ℕ) (rest : Text) → IsPlain rest → IsPlain (digits_before most n rest)
digits-plain zero n rest plain = plain
digits-plain (suc most) n rest plain =
    elim (nat_lt n 10) as (λ t. nat_lt n 10 ≡ t
    → IsPlain (elim t [ true ↦ (48 + n) ∷ rest | false ↦ digits_before most (n / 10) ((48 + n % 10) ∷ rest) ])) [
      | true ↦ λ t. digits-more n rest (ltb-true n 10 t) plain
      | false ↦ λ t. digits-plain most (n / 10) ((48 + n % 10) ∷ rest) (digits-more (n % 10) rest (omega arith) plain)
    ] refl

-- the text of a whole number needs no escapes
pub whole-plain : (z : ℤ) → escaped (whole_text z) ≡ whole_text z
whole-plain (pos n) = digits-plain (suc n) n [] refl
whole-plain (negsuc n) = ap (λ u. 45 ∷ u) (digits-plain (suc (suc n)) (suc n) [] refl)

-- ---- members

-- a member's text, part by part
escaped-member : (later : Bool) (name value : Text) → escaped (comma_if later ++ (quoted name ++ 58 ∷ value))
    ≡ comma_if later ++ (escaped (quoted name) ++ 58 ∷ escaped value)
escaped-member true name value = ap (λ t. 44 ∷ t) (escaped-append (quoted name) (58 ∷ value))
escaped-member false name value = escaped-append (quoted name) (58 ∷ value)

-- the parts of a member are written
pub parts-written : (old comma named colon after name value : Text) (later : Bool) → comma ≡ old ++ comma_if later
    → named ≡ comma ++ escaped (quoted name) → colon ≡ named ++ 58 ∷ [] → after ≡ colon ++ escaped value
    → after ≡ old ++ escaped (comma_if later ++ (quoted name ++ 58 ∷ value))
parts-written old comma named colon after name value later has_comma has_name has_colon here =
    let behind = 58 ∷ escaped value in
    here ∙ ap (λ t. t ++ escaped value) (has_colon ∙ ap (λ t. t ++ 58 ∷ []) (has_name ∙ ap (λ t. t ++ escaped (quoted name)) has_comma))
    ∙ append_assoc ((old ++ comma_if later) ++ escaped (quoted name)) (58 ∷ []) (escaped value)
    ∙ append_assoc (old ++ comma_if later) (escaped (quoted name)) behind
    ∙ append_assoc old (comma_if later) (escaped (quoted name) ++ behind)
    ∙ ap (λ t. old ++ t) (sym (escaped-member later name value))

-- one member more is written
pub nested-member-written : (whole before after : Text) (later : Bool) (ks : Fields) (i : ℕ) (k : SmallText × Scalar) → i < length ks
    → k ≡ get_or ks i k → before ++ escaped (text_from later ks i) ≡ whole → after ≡ before ++ escaped (member_piece later k)
    → after ++ escaped (text_from true ks (i + 1)) ≡ whole
nested-member-written whole before after later ks i k within is so_far here =
    let piece = member_piece later k in
    let rest = text_from true ks (i + 1) in
    ap (λ t. t ++ escaped rest) here ∙ append_assoc before (escaped piece) (escaped rest)
    ∙ ap (λ t. before ++ t) (sym (escaped-append piece rest) ∙ ap escaped (sym (text_from-more later ks i k within is)))
    ∙ so_far
