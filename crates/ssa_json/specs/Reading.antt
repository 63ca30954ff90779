-- The value that bytes are as JSON text, or why they are none.
use Rattle.std.specs.Prelude.{◌≡◌, ℕ, ◌<◌, ◌≤◌, ℤ, List, length, Option, None, Some, Result, Ok, Err, if◌then◌else◌}
use Rattle.std.specs.Str.{is_utf8}
use Rattle.serde_json.specs.Data as json
use Rattle.serde_json.specs.Find.{as_i64}
use Rattle.serde_json.specs.Read.{read}
use Rattle.ssa_model.specs.definitions.Json as model
use Rattle.ssa_model.specs.definitions.Readings.{ReadFault, not_json, null_value, number_outside}
use Rattle.ssa_json.specs.View.{view}
use Rattle.ssa_json.specs.declared.value.Json.{Json}
use Rattle.ssa_json.specs.declared.fault.JsonFault.{JsonFault}
use Rattle.ssa_json.specs.declared.fault.JsonFault.TheVariants.{TooLong, NotJson, NullValue, NumberOutside, OutOfMemory}

infixl 10 ◌>>=◌
abbrev pub ◌>>=◌ : {A B : Type 0} → Result A ReadFault → (A → Result B ReadFault) → Result B ReadFault
(Ok x) >>= f = f x
(Err e) >>= f = Err e

abbrev pub whole_value : Option ℤ → Result model.Json ReadFault
whole_value (Some z) = Ok (model.scalar (model.whole z))
whole_value None = Err number_outside

-- The value that JSON data is, or its first fault: members in the order of their names, items in theirs.
abbrev mutual
  pub value_of : json.Data → Result model.Json ReadFault
  value_of json.null = Err null_value
  value_of (json.boolean b) = Ok (model.scalar (model.truth b))
  value_of (json.number n) = whole_value (as_i64 n)
  value_of (json.string s) = Ok (model.scalar (model.text s))
  value_of (json.array ds) = items_value ds >>= λ vs. Ok (model.list vs)
  value_of (json.object ms) = members_value ms >>= λ vs. Ok (model.object vs)

  pub items_value : json.Items → Result model.Items ReadFault
  items_value json.no_items = Ok model.no_items
  items_value (json.item d ds) = value_of d >>= λ v. items_value ds >>= λ vs. Ok (model.item v vs)

  pub members_value : json.Members → Result model.Members ReadFault
  members_value json.no_members = Ok model.no_members
  members_value (json.member k d ms) = value_of d >>= λ v. members_value ms >>= λ vs. Ok (model.member k v vs)

abbrev pub data_value : Option json.Data → Result model.Json ReadFault
data_value (Some d) = value_of d
data_value None = Err not_json

-- The value that the bytes are, or their fault: not JSON, or the first part of the JSON data that is left out here.
unfoldable pub json_reading : List ℕ → Result model.Json ReadFault
json_reading bytes = if is_utf8 bytes then data_value (read bytes) else Err not_json

-- What reading at most that many bytes answers.
abbrev pub Answers : Result Json JsonFault → List ℕ → ℕ → Type 0
Answers (Ok v) bytes most = (length bytes ≤ most) × (json_reading bytes ≡ Ok (view v))
Answers (Err TooLong) bytes most = most < length bytes
Answers (Err NotJson) bytes most = (length bytes ≤ most) × (json_reading bytes ≡ Err not_json)
Answers (Err NullValue) bytes most = (length bytes ≤ most) × (json_reading bytes ≡ Err null_value)
Answers (Err NumberOutside) bytes most = (length bytes ≤ most) × (json_reading bytes ≡ Err number_outside)
Answers (Err OutOfMemory) bytes most = length bytes ≤ most

-- What converting JSON data answers, where its value or first fault is r; when memory ran out, nothing is said.
abbrev pub Refuses : {A : Type 0} → JsonFault → Result A ReadFault → Type 0
Refuses TooLong r = ⊥
Refuses NotJson r = ⊥
Refuses NullValue r = r ≡ Err null_value
Refuses NumberOutside r = r ≡ Err number_outside
Refuses OutOfMemory r = Unit {0}

abbrev pub Converts : {A B : Type 0} → (A → B) → Result A JsonFault → Result B ReadFault → Type 0
Converts seen (Ok x) r = r ≡ Ok (seen x)
Converts seen (Err fault) r = Refuses fault r
