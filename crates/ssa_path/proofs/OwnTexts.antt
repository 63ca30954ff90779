-- The own text of an element is read as the element.
use Rattle.std.proofs.Common.{pos, negsuc, true≢false, ◌≡◌, ℕ, max, [], ◌∷◌, Bool, true, false, Some, Ok, is_lt, nat_cmp, refl, sym, ap, ◌∙◌, arith, ◌++◌, ◌+◌, ◌<◌, take, get_or, length}
use Rattle.std.proofs.lemmas.Bool.{and_parts, and_from}
use Rattle.std.specs.Str.{is_utf8}
use Rattle.std.proofs.lemmas.List.{take_more}
use Rattle.std.specs.Cmp.Lexicographic.{slice_cmp}
use Rattle.std.specs.Prelude.{◌≢◌, option_map, Err}
use Rattle.ssa_members.specs.Texts.{text_bytes}
use Rattle.ssa_members.specs.declared.small_text.SmallText.{SmallText}
use Rattle.ssa_model.specs.definitions.FieldsV1.{is_in_range, are_in_range, names_rise, is_element}
use Rattle.ssa_model.specs.definitions.Json.{Text, Scalar, text, whole, truth, scalar, object, compact, scalar_text}
use Rattle.ssa_model.specs.definitions.Path.{Element, field, key, value, key_members, element_text}
use Rattle.ssa_model.specs.definitions.ElementTexts.{key_of, value_element, key_element, is_index, ElementFault, element_of, spelled_element}
use Rattle.ssa_json.specs.Reading.{json_reading}
use Rattle.ssa_json.specs.View.{scalar_view}
use Rattle.ssa_json.specs.Written.{is_narrow_scalar, members_narrow}
use Rattle.ssa_json.specs.declared.value.Scalar as json
use Rattle.ssa_json.specs.declared.value.Scalar.TheVariants.{Text as TextOf, Int, Bool as BoolOf}
use Rattle.ssa_json.specs.Writable.{is_utf8_scalar, members_have_utf8, members_rise, members_depth}
use Rattle.ssa_model.proofs.Tables.{text-itself as same_text-itself}
use Rattle.ssa_json.proofs.OfProgram.{small_text_is_utf8}
use Rattle.ssa_json.proofs.ReadingBack.{compact-is-read}
use Rattle.ssa_path.specs.Keys.{Members, members_view, names_rise_after, are_keys}
use Rattle.ssa_path.proofs.Texts.{Fields}
use Rattle.ssa_path.specs.OwnText.{IsElementOfProgram}

-- ---- scalars and key fields are written and read

flat-members : (ks : Members) → members_depth (key_members ks) ≡ 0
flat-members [] = refl
flat-members (k ∷ ks) = ap (max 0) (flat-members ks)

rising : (ks : Members) → names_rise ks ≡ true → members_rise (key_members ks) ≡ true
rising [] h = refl
rising (k ∷ []) h = refl
rising (k ∷ l ∷ ks) h =
    let parts = and_parts (is_lt (slice_cmp nat_cmp k.0 l.0)) (names_rise (l ∷ ks)) h in
    and_from _ _ parts.0 (rising (l ∷ ks) parts.1)

key_of-members : (ks : Members) → key_of (key_members ks) ≡ Some ks
key_of-members [] = refl
key_of-members (k ∷ ks) = ap (option_map (λ ls. k ∷ ls)) (key_of-members ks)

scalar-read : (s : Scalar) → IsElementOfProgram (value s) → json_reading (scalar_text s) ≡ Ok (scalar s)
scalar-read s h = compact-is-read (scalar s) (record { of_program = record { narrow = h.narrow; texts = h.texts; names = refl }; shallow = omega arith })

keys-read : (ks : Members) → names_rise ks ≡ true → IsElementOfProgram (key ks)
    → json_reading (compact (object (key_members ks))) ≡ Ok (object (key_members ks))
keys-read ks rise h =
    compact-is-read (object (key_members ks))
    (record { of_program = record { narrow = h.narrow; texts = h.texts; names = rising ks rise }; shallow = omega (arith, flat-members ks) })

-- ---- the text spells its element

spelled : (e : Element) → IsElementOfProgram e → spelled_element json_reading (element_text e) ≡ Some e
spelled (field n) h = refl
spelled (value s) h = ap value_element (scalar-read s h)
spelled (key []) h = let never : false ≡ true = h.lawful in cc
spelled (key (k ∷ ks)) h = ap key_element (keys-read (k ∷ ks) (and_parts (names_rise (k ∷ ks)) _ h.lawful).0 h) ∙ ap (option_map key) (key_of-members (k ∷ ks))

own-if-spelled : (e : Element) → is_index (element_text e) ≡ false → spelled_element json_reading (element_text e) ≡ Some e
    → element_of json_reading (element_text e) ≡ Ok e
own-if-spelled e no_index is = rw (no_index, is, same_text-itself (element_text e)) refl

no-index : (e : Element) → is_index (element_text e) ≡ false
no-index (field n) = refl
no-index (key ks) = refl
no-index (value s) = refl

-- the own text of an element of the program is read as the element
pub own-text-is-read : (e : Element) → IsElementOfProgram e → element_of json_reading (element_text e) ≡ Ok e
own-text-is-read e h = own-if-spelled e (no-index e) (spelled e h)

-- ---- the program's elements

-- the whole numbers of these key fields have 64 bits
abbrev pub are_narrow : Fields → Bool
are_narrow ks = members_narrow (key_members (members_view ks))

are_narrow-push : (ks : Fields) (k : SmallText × json.Scalar) → are_narrow ks ≡ true → is_narrow_scalar (scalar_view k.1) ≡ true
    → are_narrow (ks ++ k ∷ []) ≡ true
are_narrow-push [] k before here = and_from (is_narrow_scalar (scalar_view k.1)) true here refl
are_narrow-push (first ∷ ks) k before here =
    let parts = and_parts (is_narrow_scalar (scalar_view first.1)) (are_narrow ks) before in
    and_from _ _ parts.0 (are_narrow-push ks k parts.1 here)

-- the next member's number fits too
pub are_narrow-more : (ks : Fields) (i : ℕ) (k : SmallText × json.Scalar) → i < length ks → k ≡ get_or ks i k
    → are_narrow (take i ks) ≡ true → is_narrow_scalar (scalar_view k.1) ≡ true → are_narrow (take (i + 1) ks) ≡ true
are_narrow-more ks i k within is before here =
    ap are_narrow (take_more ks i k within ∙ ap (λ x. take i ks ++ x ∷ []) (sym is)) ∙ are_narrow-push (take i ks) k before here

scalar-is-utf8 : (s : json.Scalar) → is_utf8_scalar (scalar_view s) ≡ true
scalar-is-utf8 (TextOf t) = small_text_is_utf8 t
scalar-is-utf8 (Int n) = refl
scalar-is-utf8 (BoolOf b) = refl

-- the names and texts of the program's key fields are UTF-8
pub texts-are-utf8 : (ks : Fields) → members_have_utf8 (key_members (members_view ks)) ≡ true
texts-are-utf8 [] = refl
texts-are-utf8 (k ∷ ks) =
    and_from (is_utf8 (text_bytes k.0)) _ (small_text_is_utf8 k.0)
    (and_from (is_utf8_scalar (scalar_view k.1)) (members_have_utf8 (key_members (members_view ks))) (scalar-is-utf8 k.1) (texts-are-utf8 ks))

-- ---- the range of scalars and of key fields

in-range : (s : Scalar) → is_narrow_scalar s ≡ true → is_utf8_scalar s ≡ true → is_in_range s ≡ true
in-range (text t) narrow texts = texts
in-range (whole (pos n)) narrow texts = narrow
in-range (whole (negsuc n)) narrow texts = narrow
in-range (truth b) narrow texts = refl

keys-in-range : (ks : Members) → members_narrow (key_members ks) ≡ true → members_have_utf8 (key_members ks) ≡ true → are_in_range ks ≡ true
keys-in-range [] narrow texts = refl
keys-in-range (k ∷ ks) narrow texts =
    let small = and_parts (is_narrow_scalar k.1) _ narrow in
    let named = and_parts (is_utf8 k.0) _ texts in
    let rest = and_parts (is_utf8_scalar k.1) _ named.1 in
    and_from (is_utf8 k.0) _ named.0 (and_from (is_in_range k.1) _ (in-range k.1 small.0 rest.0) (keys-in-range ks small.1 rest.1))

narrow-in-range : (s : Scalar) → is_in_range s ≡ true → is_narrow_scalar s ≡ true
narrow-in-range (text t) h = refl
narrow-in-range (whole (pos n)) h = h
narrow-in-range (whole (negsuc n)) h = h
narrow-in-range (truth b) h = refl

utf8-in-range : (s : Scalar) → is_in_range s ≡ true → is_utf8_scalar s ≡ true
utf8-in-range (text t) h = h
utf8-in-range (whole z) h = refl
utf8-in-range (truth b) h = refl

keys-narrow : (ks : Members) → are_in_range ks ≡ true → members_narrow (key_members ks) ≡ true
keys-narrow [] h = refl
keys-narrow (k ∷ ks) h =
    let rest = and_parts (is_in_range k.1) (are_in_range ks) (and_parts (is_utf8 k.0) _ h).1 in
    and_from (is_narrow_scalar k.1) _ (narrow-in-range k.1 rest.0) (keys-narrow ks rest.1)

keys-have-utf8 : (ks : Members) → are_in_range ks ≡ true → members_have_utf8 (key_members ks) ≡ true
keys-have-utf8 [] h = refl
keys-have-utf8 (k ∷ ks) h =
    let named = and_parts (is_utf8 k.0) _ h in
    let rest = and_parts (is_in_range k.1) (are_in_range ks) named.1 in
    and_from (is_utf8 k.0) _ named.0 (and_from (is_utf8_scalar k.1) _ (utf8-in-range k.1 rest.0) (keys-have-utf8 ks rest.1))

-- each element of the definitions is one of the program
pub element-of-program : (e : Element) → is_element e ≡ true → IsElementOfProgram e
element-of-program (field n) h = record { lawful = h; narrow = refl; texts = h }
element-of-program (key []) h = absurd (true≢false (sym h))
element-of-program (key (k ∷ ks)) h =
    let range = (and_parts (names_rise (k ∷ ks)) _ h).1 in
    record { lawful = h; narrow = keys-narrow (k ∷ ks) range; texts = keys-have-utf8 (k ∷ ks) range }
element-of-program (value s) h = record { lawful = h; narrow = narrow-in-range s h; texts = utf8-in-range s h }

-- what `Elem::text` knows of each sort
pub field-of-program : (n : SmallText) → IsElementOfProgram (field (text_bytes n))
field-of-program n = record { lawful = small_text_is_utf8 n; narrow = refl; texts = small_text_is_utf8 n }

-- the value of a scalar of 64 bits is an element of the program
pub value-of-program : (s : json.Scalar) → is_narrow_scalar (scalar_view s) ≡ true → IsElementOfProgram (value (scalar_view s))
value-of-program s narrow = record { lawful = in-range (scalar_view s) narrow (scalar-is-utf8 s); narrow = narrow; texts = scalar-is-utf8 s }

rise-from-after : (k : Text × Scalar) (ks : Members) → names_rise_after k.0 ks ≡ true → names_rise (k ∷ ks) ≡ true
rise-from-after k [] h = refl
rise-from-after k (l ∷ ks) h =
    let parts = and_parts (is_lt (slice_cmp nat_cmp k.0 l.0)) (names_rise_after l.0 ks) h in
    and_from _ _ parts.0 (rise-from-after l ks parts.1)

lawful-keys : (ks : Members) → are_keys ks ≡ true → are_in_range ks ≡ true → is_element (key ks) ≡ true
lawful-keys [] h range = h
lawful-keys (k ∷ ks) h range = and_from _ _ (rise-from-after k ks h) range

-- key fields whose names rise, with numbers of 64 bits, are an element of the program
pub key-of-program : (keys : Members) (ks : Fields) → members_view ks ≡ keys → are_keys keys ≡ true → are_narrow ks ≡ true → IsElementOfProgram (key keys)
key-of-program keys ks same rise narrow =
    let small = ap (λ l. members_narrow (key_members l)) (sym same) ∙ narrow in
    let texts = ap (λ l. members_have_utf8 (key_members l)) (sym same) ∙ texts-are-utf8 ks in
    record { lawful = lawful-keys keys rise (keys-in-range keys small texts); narrow = small; texts = texts }

-- a text that is refused is the own text of none
pub own-text-of-none : (t : Text) (fault : ElementFault) → element_of json_reading t ≡ Err fault → (e : Element) → IsElementOfProgram e → element_text e ≢ t
own-text-of-none t fault refused e h is = let both : Ok e ≡ Err fault = sym (own-text-is-read e h) ∙ ap (element_of json_reading) is ∙ refused in cc
