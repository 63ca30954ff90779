-- The compact text of a value is read back as the value.
use Rattle.std.proofs.Common.{◌≡◌, ◌≤◌, ℕ, suc, ◌^◌, max, ℤ, pos, negsuc, [], ◌∷◌, Bool, true, false, Some, Ok, IsUtf8, refl, sym, ap, ap₂, ◌∙◌, subst, arith, ltb-true, append-nil}
use Rattle.std.specs.Prelude.{option_map, option_and_then}
use Rattle.std.proofs.lemmas.Bool.{and_parts}
use Rattle.std.proofs.lemmas.Fmt.{IsAscii-signed}
use Rattle.std.proofs.lemmas.Str.{IsUtf8-append, IsUtf8-from_ascii, IsUtf8-from_is_utf8}
use Rattle.std.specs.Str.{is_utf8}
use Rattle.json.specs.Json as grammar
use Rattle.json.specs.Tree as tree
use Rattle.json.specs.Lex.{tokens}
use Rattle.json.proofs.Printed.Decimals.{IsNumber-signed_decimal}
use Rattle.json.proofs.Printed.Tokens.{tokens-print}
use Rattle.json.proofs.Printed.Trees.{value-json_tokens, ArePrintable-json_tokens}
use Rattle.json.proofs.Printed.Utf8.{IsUtf8-are_ascii, IsUtf8-quoted}
use Rattle.serde_json.specs.Data as json
use Rattle.serde_json.specs.Data.{put}
use Rattle.serde_json.specs.Read.{read, of_json, of_items, of_members, max_depth}
use Rattle.serde_json.specs.Written.{outline, items_outline, members_outline}
use Rattle.serde_json.proofs.Numbers.{number_of-decimal, number_of-negative}
use Rattle.ssa_model.specs.definitions.Json.{Text, Scalar, text, whole, truth, Items, no_items, item, Members, no_members, member, scalar, list, object, quoted, whole_text, scalar_text, comma_if, compact, compact_items, compact_members}
use Rattle.ssa_model.specs.definitions.Json as model
use Rattle.ssa_json.specs.Reading.{value_of, items_value, members_value, json_reading}
use Rattle.ssa_json.specs.Written.{scalar_data, data_of, items_data, members_data, tokens_of, is_narrow_whole, is_narrow_scalar, is_narrow, items_narrow, members_narrow}
use Rattle.ssa_json.specs.Writable.{is_utf8_scalar, has_utf8, items_have_utf8, members_have_utf8, is_below, has_rising_names, items_have_rising_names, members_rise, depth, items_depth, members_depth, IsWritable}
use Rattle.ssa_json.proofs.Converting.{json_reading-data}
use Rattle.ssa_json.proofs.Printing.{quoted-is, whole-is, print-tokens_of}
use Rattle.ssa_json.proofs.RisingNames.{followed_by, followed_by-assoc, followed_by-none, put-above, AreBefore, AreBefore-next}

-- ---- the data that a value is has that value

whole-value : (z : ℤ) → is_narrow_whole z ≡ true → value_of (scalar_data (whole z)) ≡ Ok (scalar (whole z))
whole-value (pos n) narrow = rw narrow refl
whole-value (negsuc n) narrow = refl

scalar-value : (s : Scalar) → is_narrow_scalar s ≡ true → value_of (scalar_data s) ≡ Ok (scalar s)
scalar-value (text t) narrow = refl
scalar-value (whole z) narrow = whole-value z narrow
scalar-value (truth b) narrow = refl

mutual
  -- the data of a value with numbers of 64 bits has this value
  pub value_of-data_of : (v : model.Json) → is_narrow v ≡ true → value_of (data_of v) ≡ Ok v
  value_of-data_of (scalar s) narrow = scalar-value s narrow
  value_of-data_of (list vs) narrow = rw (items_value-data vs narrow) refl
  value_of-data_of (object ms) narrow = rw (members_value-data ms narrow) refl

  items_value-data : (vs : Items) → items_narrow vs ≡ true → items_value (items_data vs) ≡ Ok vs
  items_value-data no_items narrow = refl
  items_value-data (item v vs) narrow =
      let parts = and_parts (is_narrow v) (items_narrow vs) narrow in
      rw (value_of-data_of v parts.0, items_value-data vs parts.1) refl

  members_value-data : (ms : Members) → members_narrow ms ≡ true → members_value (members_data ms) ≡ Ok ms
  members_value-data no_members narrow = refl
  members_value-data (member k v ms) narrow =
      let parts = and_parts (is_narrow v) (members_narrow ms) narrow in
      rw (value_of-data_of v parts.0, members_value-data ms parts.1) refl

-- ---- the tree that stands for the data is read as the data

whole-read : (z : ℤ) → is_narrow_whole z ≡ true → of_json (outline (scalar_data (whole z))) ≡ Some (scalar_data (whole z))
whole-read (pos n) narrow = ap (option_map json.number) (number_of-decimal n (let small = ltb-true n (2 ^ 63) narrow in omega arith))
whole-read (negsuc n) narrow = ap (option_map json.number) (number_of-negative n (ltb-true n (2 ^ 63) narrow))

scalar-read : (s : Scalar) → is_narrow_scalar s ≡ true → of_json (outline (scalar_data s)) ≡ Some (scalar_data s)
scalar-read (text t) narrow = refl
scalar-read (whole z) narrow = whole-read z narrow
scalar-read (truth b) narrow = refl

none-before : (ms : Members) → AreBefore json.no_members ms
none-before no_members = tt
none-before (member k v ms) = tt

mutual
  of_json-outline : (v : model.Json) → is_narrow v ≡ true → has_rising_names v ≡ true → of_json (outline (data_of v)) ≡ Some (data_of v)
  of_json-outline (scalar s) narrow rising = scalar-read s narrow
  of_json-outline (list vs) narrow rising = ap (option_map json.array) (of_items-outline vs narrow rising)
  of_json-outline (object ms) narrow rising = ap (option_map json.object) (of_members-outline ms json.no_members narrow rising (none-before ms))

  of_items-outline : (vs : Items) → items_narrow vs ≡ true → items_have_rising_names vs ≡ true → of_items (items_outline (items_data vs)) ≡ Some (items_data vs)
  of_items-outline no_items narrow rising = refl
  of_items-outline (item v vs) narrow rising =
      let narrows = and_parts (is_narrow v) (items_narrow vs) narrow in
      let rise = and_parts (has_rising_names v) (items_have_rising_names vs) rising in
      rw (of_json-outline v narrows.0 rise.0, of_items-outline vs narrows.1 rise.1) refl

  of_members-outline : (ms : Members) (found : json.Members) → members_narrow ms ≡ true → members_rise ms ≡ true → AreBefore found ms
      → of_members (members_outline (members_data ms)) found ≡ Some (followed_by found (members_data ms))
  of_members-outline no_members found narrow rising before = ap Some (sym (followed_by-none found))
  of_members-outline (member k v ms) found narrow rising before =
      let narrows = and_parts (is_narrow v) (members_narrow ms) narrow in
      let rise = and_parts (is_below k ms) _ rising in
      let rises = and_parts (has_rising_names v) (members_rise ms) rise.1 in
      let d = data_of v in
      ap (option_and_then (λ e. of_members (members_outline (members_data ms)) (put k e found))) (of_json-outline v narrows.0 rises.0)
      ∙ ap (of_members (members_outline (members_data ms))) (put-above k d found before)
      ∙ of_members-outline ms (followed_by found (json.member k d json.no_members)) narrows.1 rises.1 (AreBefore-next found k d ms before rise.0)
      ∙ ap Some (followed_by-assoc found (json.member k d json.no_members) (members_data ms))

-- ---- the grammar gives that tree

mutual
  HasNumbers-outline : (v : model.Json) → is_narrow v ≡ true → tree.HasNumbers (outline (data_of v))
  HasNumbers-outline (scalar (text t)) narrow = tt
  HasNumbers-outline (scalar (whole (pos n))) narrow = IsNumber-signed_decimal (pos n) (ltb-true n (2 ^ 63) narrow)
  HasNumbers-outline (scalar (whole (negsuc n))) narrow = IsNumber-signed_decimal (negsuc n) (ltb-true n (2 ^ 63) narrow)
  HasNumbers-outline (scalar (truth b)) narrow = tt
  HasNumbers-outline (list vs) narrow = ItemsHaveNumbers-outline vs narrow
  HasNumbers-outline (object ms) narrow = MembersHaveNumbers-outline ms narrow

  ItemsHaveNumbers-outline : (vs : Items) → items_narrow vs ≡ true → tree.ItemsHaveNumbers (items_outline (items_data vs))
  ItemsHaveNumbers-outline no_items narrow = tt
  ItemsHaveNumbers-outline (item v vs) narrow =
      let parts = and_parts (is_narrow v) (items_narrow vs) narrow in
      (HasNumbers-outline v parts.0, ItemsHaveNumbers-outline vs parts.1)

  MembersHaveNumbers-outline : (ms : Members) → members_narrow ms ≡ true → tree.MembersHaveNumbers (members_outline (members_data ms))
  MembersHaveNumbers-outline no_members narrow = tt
  MembersHaveNumbers-outline (member k v ms) narrow =
      let parts = and_parts (is_narrow v) (members_narrow ms) narrow in
      (HasNumbers-outline v parts.0, MembersHaveNumbers-outline ms parts.1)

scalar-flat : (s : Scalar) → json.depth (scalar_data s) ≡ 0
scalar-flat (text t) = refl
scalar-flat (whole z) = refl
scalar-flat (truth b) = refl

mutual
  depth-data_of : (v : model.Json) → json.depth (data_of v) ≡ depth v
  depth-data_of (scalar s) = scalar-flat s
  depth-data_of (list vs) = ap suc (items_depth-data vs)
  depth-data_of (object ms) = ap suc (members_depth-data ms)

  items_depth-data : (vs : Items) → json.items_depth (items_data vs) ≡ items_depth vs
  items_depth-data no_items = refl
  items_depth-data (item v vs) = ap₂ max (depth-data_of v) (items_depth-data vs)

  members_depth-data : (ms : Members) → json.members_depth (members_data ms) ≡ members_depth ms
  members_depth-data no_members = refl
  members_depth-data (member k v ms) = ap₂ max (depth-data_of v) (members_depth-data ms)

mutual
  depth-outline : (d : json.Data) → tree.depth (outline d) ≡ json.depth d
  depth-outline json.null = refl
  depth-outline (json.boolean b) = refl
  depth-outline (json.number n) = refl
  depth-outline (json.string s) = refl
  depth-outline (json.array ds) = ap suc (items_depth-outline ds)
  depth-outline (json.object ms) = ap suc (members_depth-outline ms)

  items_depth-outline : (ds : json.Items) → tree.items_depth (items_outline ds) ≡ json.items_depth ds
  items_depth-outline json.no_items = refl
  items_depth-outline (json.item d ds) = ap₂ max (depth-outline d) (items_depth-outline ds)

  members_depth-outline : (ms : json.Members) → tree.members_depth (members_outline ms) ≡ json.members_depth ms
  members_depth-outline json.no_members = refl
  members_depth-outline (json.member k d ms) = ap₂ max (depth-outline d) (members_depth-outline ms)

tokens-compact : (v : model.Json) → is_narrow v ≡ true → tokens (compact v) ≡ tokens_of v
tokens-compact v narrow =
    ap tokens (sym (print-tokens_of v narrow)) ∙ tokens-print (tokens_of v) (ArePrintable-json_tokens (outline (data_of v)) (HasNumbers-outline v narrow))

read-compact : (v : model.Json) → IsWritable v → read (compact v) ≡ Some (data_of v)
read-compact v w =
    let tree_of = outline (data_of v) in
    let same = tokens-compact v w.of_program.narrow ∙ sym (append-nil (tokens_of v)) in
    let within : tree.depth tree_of ≤ max_depth = subst (λ n. n ≤ max_depth) (sym (depth-outline (data_of v) ∙ depth-data_of v)) w.shallow in
    ap (λ o. option_and_then of_json (option_and_then (λ p. grammar.if_last p.0 p.1) o)) (ap (grammar.value max_depth) same
    ∙ value-json_tokens tree_of max_depth [] within)
    ∙ of_json-outline v w.of_program.narrow w.of_program.names

-- ---- the text is UTF-8

IsUtf8-quote : (t : Text) → is_utf8 t ≡ true → IsUtf8 (quoted t)
IsUtf8-quote t h = subst IsUtf8 (quoted-is t) (IsUtf8-quoted t (IsUtf8-from_is_utf8 t h))

IsUtf8-whole : (z : ℤ) → is_narrow_whole z ≡ true → IsUtf8 (whole_text z)
IsUtf8-whole (pos n) narrow = subst IsUtf8 (whole-is (pos n) narrow) (IsUtf8-from_ascii _ (IsAscii-signed (pos n) (ltb-true n (2 ^ 63) narrow)))
IsUtf8-whole (negsuc n) narrow = subst IsUtf8 (whole-is (negsuc n) narrow) (IsUtf8-from_ascii _ (IsAscii-signed (negsuc n) (ltb-true n (2 ^ 63) narrow)))

-- a scalar is written in UTF-8, where its number has 64 bits and its own text is UTF-8
pub IsUtf8-scalar : (s : Scalar) → is_narrow_scalar s ≡ true → is_utf8_scalar s ≡ true → IsUtf8 (scalar_text s)
IsUtf8-scalar (text t) narrow texts = IsUtf8-quote t texts
IsUtf8-scalar (whole z) narrow texts = IsUtf8-whole z narrow
IsUtf8-scalar (truth true) narrow texts = IsUtf8-are_ascii _ refl
IsUtf8-scalar (truth false) narrow texts = IsUtf8-are_ascii _ refl

-- a comma between others, or none, is UTF-8
pub IsUtf8-comma : (later : Bool) → IsUtf8 (comma_if later)
IsUtf8-comma true = IsUtf8-are_ascii _ refl
IsUtf8-comma false = IsUtf8-are_ascii _ refl

-- an ASCII byte in front
IsUtf8-behind : (b : ℕ) (t : Text) → IsUtf8 (b ∷ []) → IsUtf8 t → IsUtf8 (b ∷ t)
IsUtf8-behind b t = IsUtf8-append (b ∷ []) t

mutual
  -- the compact text of a value is UTF-8, where its numbers have 64 bits and its texts are UTF-8
  pub IsUtf8-compact : (v : model.Json) → is_narrow v ≡ true → has_utf8 v ≡ true → IsUtf8 (compact v)
  IsUtf8-compact (scalar s) narrow texts = IsUtf8-scalar s narrow texts
  IsUtf8-compact (list vs) narrow texts = IsUtf8-behind 91 _ (IsUtf8-are_ascii _ refl) (IsUtf8-items false vs narrow texts)
  IsUtf8-compact (object ms) narrow texts = IsUtf8-behind 123 _ (IsUtf8-are_ascii _ refl) (IsUtf8-members false ms narrow texts)

  IsUtf8-items : (later : Bool) (vs : Items) → items_narrow vs ≡ true → items_have_utf8 vs ≡ true → IsUtf8 (compact_items later vs)
  IsUtf8-items later no_items narrow texts = IsUtf8-are_ascii _ refl
  IsUtf8-items later (item v vs) narrow texts =
      let narrows = and_parts (is_narrow v) (items_narrow vs) narrow in
      let are_texts = and_parts (has_utf8 v) (items_have_utf8 vs) texts in
      IsUtf8-append (comma_if later) _ (IsUtf8-comma later)
      (IsUtf8-append (compact v) _ (IsUtf8-compact v narrows.0 are_texts.0) (IsUtf8-items true vs narrows.1 are_texts.1))

  IsUtf8-members : (later : Bool) (ms : Members) → members_narrow ms ≡ true → members_have_utf8 ms ≡ true → IsUtf8 (compact_members later ms)
  IsUtf8-members later no_members narrow texts = IsUtf8-are_ascii _ refl
  IsUtf8-members later (member k v ms) narrow texts =
      let narrows = and_parts (is_narrow v) (members_narrow ms) narrow in
      let named = and_parts (is_utf8 k) _ texts in
      let are_texts = and_parts (has_utf8 v) (members_have_utf8 ms) named.1 in
      IsUtf8-append (comma_if later) _ (IsUtf8-comma later)
      (IsUtf8-append (quoted k) _ (IsUtf8-quote k named.0)
      (IsUtf8-behind 58 _ (IsUtf8-are_ascii _ refl)
      (IsUtf8-append (compact v) _ (IsUtf8-compact v narrows.0 are_texts.0) (IsUtf8-members true ms narrows.1 are_texts.1))))

-- the compact text of a writable value is read as the value
pub compact-is-read : (v : model.Json) → IsWritable v → json_reading (compact v) ≡ Ok v
compact-is-read v w =
    json_reading-data (compact v) (data_of v) (IsUtf8-compact v w.of_program.narrow w.of_program.texts) (read-compact v w)
    ∙ value_of-data_of v w.of_program.narrow
