-- Objects whose text is written member by member.
use Rattle.std.proofs.Common.{◌≡◌, [], ◌∷◌, ◌++◌, Bool, true, false, ap, ◌∙◌, append_assoc}
use Rattle.ssa_model.specs.definitions.Json.{Text, Json, object, Members, member, comma_if, compact, compact_members, quoted}
use Rattle.ssa_json.specs.MemberTexts.{name_text, member_text}

-- behind a member's name stands its value
pub member-of : (before : Text) {named after : Text} (later : Bool) (n : Text) (v : Json) → named ≡ before ++ name_text later n → after ≡ named ++ compact v
    → after ≡ before ++ member_text later n v
unfolding member_text
member-of before later n v name value = value ∙ ap (λ t. t ++ compact v) name ∙ append_assoc before (name_text later n) (compact v)

-- a member is that of each value that its own value is
pub member-as : (before : Text) {after : Text} (later : Bool) (n : Text) {v w : Json} → after ≡ before ++ member_text later n v → v ≡ w
    → after ≡ before ++ member_text later n w
member-as before later n is same = is ∙ ap (λ v. before ++ member_text later n v) same

-- what is written behind a member is written with the member behind what stood before it
pub writes-member : (before : Text) {after whole : Text} (later : Bool) (n : Text) (v : Json) (ms : Members) → after ≡ before ++ member_text later n v
    → whole ≡ after ++ compact_members true ms → whole ≡ before ++ compact_members later (member n v ms)
unfolding member_text name_text
writes-member before later n v ms is rest =
    let tail = compact_members true ms in
    rest ∙ ap (λ t. t ++ tail) is ∙ append_assoc before (member_text later n v) tail
    ∙ ap (λ t. before ++ t) (append_assoc (name_text later n) (compact v) tail ∙ append_assoc (comma_if later) (quoted n ++ 58 ∷ []) (compact v ++ tail)
    ∙ ap (λ t. comma_if later ++ t) (append_assoc (quoted n) (58 ∷ []) (compact v ++ tail)))

-- all members of an object behind its brace are the object
pub writes-object : (before : Text) {open_brace whole : Text} (ms : Members) → open_brace ≡ before ++ 123 ∷ [] → whole ≡ open_brace ++ compact_members false ms
    → whole ≡ before ++ compact (object ms)
writes-object before ms is rest =
    rest ∙ ap (λ t. t ++ compact_members false ms) is ∙ append_assoc before (123 ∷ []) (compact_members false ms)
