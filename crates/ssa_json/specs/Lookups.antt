-- Laws of the words for values: lookups among entries, beside those among the members that they stand for.
use Rattle.ssa_members.specs.Members.{Members as Entries}
use Rattle.std.specs.Prelude.{◌≡◌, List, [], ◌∷◌, Bool, true, false, cond, refl, String, string_bytes, Option, Some, None, option_map}
use Rattle.std.specs.declared.alloc.Global.{Global}
use Rattle.std.specs.Ordering.{is_eq, nat_cmp}
use Rattle.std.specs.Borrow.{Bor}
use Rattle.std.specs.Map.{lookup}
use Rattle.std.specs.BTreeMap.{is_at}
use Rattle.std.specs.Cmp.Lexicographic.{slice_cmp}
use Rattle.ssa_model.specs.definitions.Json.{Text, object, member_of}
use Rattle.ssa_json.specs.View.{view, members_view}
use Rattle.ssa_json.specs.declared.value.Json.{Json, Object}

-- a value or another, by a test, as it is seen
pub view-either : (b : Bool) (v : Json) (rest : Option Json) (r : Option Rattle.ssa_model.specs.definitions.Json.Json) → option_map view rest ≡ r
    → option_map view (cond b (Some v) rest) ≡ cond b (Some (view v)) r
view-either true v rest r e = refl
view-either false v rest r e = e

-- looking a name up among entries, and then at the value, is looking the name up among the members
pub view-lookup : (name : Text) (es : List (String Global × Json))
    → option_map view (lookup (is_at (λ k. slice_cmp nat_cmp name (string_bytes k))) es) ≡ member_of name (members_view es)
view-lookup name [] = refl
view-lookup name (e ∷ es) = view-either (is_eq (slice_cmp nat_cmp name (string_bytes e.0))) e.1 _ _ (view-lookup name es)

-- a value that is lent is seen as the value itself
pub view_of_ref : (r : Option (Bor Json)) → option_map (λ x. view x.now) r ≡ option_map view (option_map (λ x. x.now) r)
view_of_ref None = refl
view_of_ref (Some x) = refl

-- an object is seen as the members of its entries
abbrev pub ObjectsAreMembers : Type 0
ObjectsAreMembers = (m : Entries Json) → view (Object m) ≡ object (members_view m.entries)
