-- Laws of converting JSON data to values, item by item and member by member.
use Rattle.std.proofs.Common.{◌≡◌, ℕ, ◌≤◌, length, true, false, cond, None, Some, IsUtf8, List, [], ◌∷◌, ◌++◌, map, String, Global, string_bytes, Result, Ok, Err, refl, sym, ap, ◌∙◌}
use Rattle.std.proofs.lemmas.List.{map-append}
use Rattle.std.specs.Str.{is_utf8}
use Rattle.std.proofs.lemmas.Str.{IsUtf8-from_is_utf8, is_utf8-from_IsUtf8}
use Rattle.serde_json.specs.Data as json
use Rattle.serde_json.specs.Read.{read}
use Rattle.ssa_model.specs.definitions.Json.{Items, no_items, item, Members, no_members, member}
use Rattle.ssa_model.specs.definitions.Json as model
use Rattle.ssa_json.specs.View.{view, items_of, members_view}
use Rattle.ssa_model.specs.definitions.Readings.{ReadFault, not_json, null_value, number_outside}
use Rattle.ssa_json.specs.Reading.{◌>>=◌, value_of, items_value, members_value, data_value, json_reading, Refuses, Converts, Answers}
use Rattle.ssa_json.specs.declared.value.Json.{Json}
use Rattle.ssa_json.proofs.Ordered.{names}
use Rattle.ssa_json.specs.declared.fault.JsonFault.{JsonFault}
use Rattle.ssa_json.specs.declared.fault.JsonFault.TheVariants.{TooLong, NotJson, NullValue, NumberOutside, OutOfMemory}

-- a member as the program holds it: a value under its name
abbrev pub Found : Type 0
Found = String Global × Json

-- the bytes of a member's name, and what its value is seen as
abbrev pub named : Found → List ℕ × model.Json
named e = (string_bytes e.0, view e.1)

-- these items, and then the others
unfoldable pub items_after : List model.Json → Items → Items
items_after [] vs = vs
items_after (x ∷ xs) vs = item x (items_after xs vs)

-- these members, and then the others
unfoldable pub members_after : List (List ℕ × model.Json) → Members → Members
members_after [] ms = ms
members_after (x ∷ xs) ms = member x.0 x.1 (members_after xs ms)

items_after-snoc : (front : List model.Json) (v : model.Json) (vs : Items) → items_after front (item v vs) ≡ items_after (front ++ v ∷ []) vs
unfolding items_after
items_after-snoc [] v vs = refl
items_after-snoc (x ∷ xs) v vs = ap (item x) (items_after-snoc xs v vs)

members_after-snoc : (front : List (List ℕ × model.Json)) (k : List ℕ) (v : model.Json) (ms : Members)
    → members_after front (member k v ms) ≡ members_after (front ++ (k, v) ∷ []) ms
unfolding members_after
members_after-snoc [] k v ms = refl
members_after-snoc (x ∷ xs) k v ms = ap (member x.0 x.1) (members_after-snoc xs k v ms)

-- behind the front no item is left
pub items_after-none : (front : List model.Json) → items_after front no_items ≡ items_of front
unfolding items_after
items_after-none [] = refl
items_after-none (x ∷ xs) = ap (item x) (items_after-none xs)

-- the front is converted, and the rest is still to be
abbrev pub with_items : List model.Json → Result Items ReadFault → Result Items ReadFault
with_items front rest = rest >>= λ vs. Ok (items_after front vs)

-- so with members: the front is converted, and the rest is still to be
abbrev pub with_members : List (List ℕ × model.Json) → Result Members ReadFault → Result Members ReadFault
with_members front rest = rest >>= λ ms. Ok (members_after front ms)

-- before the first item all is still to be converted
pub with_items-none : (r : Result Items ReadFault) → r ≡ with_items [] r
unfolding items_after
with_items-none (Ok vs) = refl
with_items-none (Err e) = refl

-- before the first member all is still to be converted
pub with_members-none : (r : Result Members ReadFault) → r ≡ with_members [] r
unfolding members_after
with_members-none (Ok ms) = refl
with_members-none (Err e) = refl

with_items-more : (front : List model.Json) (v : model.Json) (r : Result Items ReadFault)
    → with_items front (r >>= λ vs. Ok (item v vs)) ≡ with_items (front ++ v ∷ []) r
with_items-more front v (Ok vs) = ap Ok (items_after-snoc front v vs)
with_items-more front v (Err e) = refl

with_members-more : (front : List (List ℕ × model.Json)) (k : List ℕ) (v : model.Json) (r : Result Members ReadFault)
    → with_members front (r >>= λ ms. Ok (member k v ms)) ≡ with_members (front ++ (k, v) ∷ []) r
with_members-more front k v (Ok ms) = ap Ok (members_after-snoc front k v ms)
with_members-more front k v (Err e) = refl

-- one more item is converted
pub items-step : (front : List model.Json) (v : model.Json) (d : json.Data) (ds : json.Items) → value_of d ≡ Ok v
    → with_items front (items_value (json.item d ds)) ≡ with_items (front ++ v ∷ []) (items_value ds)
items-step front v d ds is = ap (λ r. with_items front (r >>= λ x. items_value ds >>= λ vs. Ok (item x vs))) is ∙ with_items-more front v (items_value ds)

-- one more member is converted
pub members-step : (front : List (List ℕ × model.Json)) (v : model.Json) (k : List ℕ) (d : json.Data) (ms : json.Members) → value_of d ≡ Ok v
    → with_members front (members_value (json.member k d ms)) ≡ with_members (front ++ (k, v) ∷ []) (members_value ms)
members-step front v k d ms is = ap (λ r. with_members front (r >>= λ x. members_value ms >>= λ vs. Ok (member k x vs))) is
    ∙ with_members-more front k v (members_value ms)

-- one value more goes last, as it is seen
pub views_push : (found : List Json) (j : Json) (now : List Json) → now ≡ found ++ j ∷ [] → map view found ++ view j ∷ [] ≡ map view now
views_push found j now is = sym (map-append view found (j ∷ [])) ∙ ap (map view) (sym is)

-- one member more goes last, as it is seen
pub named_push : (found : List Found) (k : String Global) (j : Json) (now : List Found) → now ≡ found ++ (k, j) ∷ []
    → map named found ++ (string_bytes k, view j) ∷ [] ≡ map named now
named_push found k j now is = sym (map-append named found ((k, j) ∷ [])) ∙ ap (map named) (sym is)

-- a fault of one is a fault of the whole
Refuses-at : {A B : Type 0} (fault : JsonFault) (part : Result A ReadFault) (whole : Result B ReadFault) → ((e : ReadFault) → part ≡ Err e → whole ≡ Err e)
    → Refuses fault part → Refuses fault whole
Refuses-at TooLong part whole passes h = absurd h
Refuses-at NotJson part whole passes h = absurd h
Refuses-at NullValue part whole passes h = passes null_value h
Refuses-at NumberOutside part whole passes h = passes number_outside h
Refuses-at OutOfMemory part whole passes h = tt

-- a fault of the next item is the fault of the whole list
pub items-fault : (fault : JsonFault) (front : List model.Json) (d : json.Data) (ds : json.Items) (whole : Result Items ReadFault)
    → whole ≡ with_items front (items_value (json.item d ds)) → Refuses fault (value_of d) → Refuses fault whole
items-fault fault front d ds whole split h =
    Refuses-at fault (value_of d) whole (λ e is. split ∙ ap (λ r. with_items front (r >>= λ x. items_value ds >>= λ vs. Ok (item x vs))) is) h

-- a fault of the next member's value is the fault of the whole object
pub members-fault : (fault : JsonFault) (front : List (List ℕ × model.Json)) (k : List ℕ) (d : json.Data) (ms : json.Members)
    (whole : Result Members ReadFault) → whole ≡ with_members front (members_value (json.member k d ms)) → Refuses fault (value_of d) → Refuses fault whole
members-fault fault front k d ms whole split h =
    Refuses-at fault (value_of d) whole (λ e is. split ∙ ap (λ r. with_members front (r >>= λ x. members_value ms >>= λ vs. Ok (member k x vs))) is) h

-- ---- members that were found

-- behind the members that were found none is left
pub members_after-none : (found : List Found) → members_after (map named found) no_members ≡ members_view found
unfolding members_after
members_after-none [] = refl
members_after-none (x ∷ xs) = ap (member (string_bytes x.0) (view x.1)) (members_after-none xs)

-- ---- the bytes

-- bytes that are not UTF-8, or that spell no data, are no JSON
pub json_reading-none : (bytes : List ℕ) → (IsUtf8 bytes → read bytes ≡ None) → json_reading bytes ≡ Err not_json
unfolding json_reading
json_reading-none bytes none =
    elim (is_utf8 bytes) as (λ t. is_utf8 bytes ≡ t → cond t (data_value (read bytes)) (Err not_json) ≡ Err not_json) [
      | true ↦ λ text. ap data_value (none (IsUtf8-from_is_utf8 bytes text))
      | false ↦ λ _. refl
    ] refl

-- bytes of UTF-8 that spell data are read as the value of the data
pub json_reading-data : (bytes : List ℕ) (d : json.Data) → IsUtf8 bytes → read bytes ≡ Some d → json_reading bytes ≡ value_of d
unfolding json_reading
json_reading-data bytes d text is = rw (is_utf8-from_IsUtf8 bytes text, is) refl

-- what converting the data answers is what reading its bytes answers, where they are not too many
pub Answers-converted : (r : Result Json JsonFault) (bytes : List ℕ) (most : ℕ) (d : json.Data)
    → length bytes ≤ most → IsUtf8 bytes → read bytes ≡ Some d → Converts view r (value_of d) → Answers r bytes most
Answers-converted (Ok v) bytes most d fits text is h = (fits, json_reading-data bytes d text is ∙ h)
Answers-converted (Err TooLong) bytes most d fits text is h = absurd h
Answers-converted (Err NotJson) bytes most d fits text is h = absurd h
Answers-converted (Err NullValue) bytes most d fits text is h = (fits, json_reading-data bytes d text is ∙ h)
Answers-converted (Err NumberOutside) bytes most d fits text is h = (fits, json_reading-data bytes d text is ∙ h)
Answers-converted (Err OutOfMemory) bytes most d fits text is h = fits

first_parts : (found : List Found) → map (λ (n : List ℕ × model.Json). n.0) (map named found) ≡ names found
first_parts [] = refl
first_parts (x ∷ xs) = ap (λ t. string_bytes x.0 ∷ t) (first_parts xs)

-- members that are seen alike have the same names
pub same_names : (found done : List Found) → map named found ≡ map named done → names found ≡ names done
same_names found done same = sym (first_parts found) ∙ ap (map (λ (n : List ℕ × model.Json). n.0)) same ∙ first_parts done
