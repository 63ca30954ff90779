-- The data of the program's values: how many items and members it has, and that it has no float.
use Rattle.std.proofs.Common.{◌≡◌, List, [], ◌∷◌, length, false, suc, ℤ, pos, negsuc, refl, ap, String, Global}
use Rattle.serde_json.specs.Events.{items_len, members_len}
use Rattle.serde_json.specs.Written as written
use Rattle.ssa_model.specs.definitions.Json.{Scalar, text, whole, truth, Items, no_items, item, Members, no_members, member, scalar, list, object}
use Rattle.ssa_model.specs.definitions.Json as model
use Rattle.ssa_json.specs.View.{items_view, members_view}
use Rattle.ssa_json.specs.Written.{scalar_data, data_of, items_data, members_data}
use Rattle.ssa_json.specs.declared.value.Json.{Json}
use Rattle.ssa_json.proofs.Converting.{Found}

pub items_len-data : (vs : List Json) → items_len (items_data (items_view vs)) ≡ length vs
items_len-data [] = refl
items_len-data (v ∷ vs) = ap suc (items_len-data vs)

pub members_len-data : (ms : List Found) → members_len (members_data (members_view ms)) ≡ length ms
members_len-data [] = refl
members_len-data (m ∷ ms) = ap suc (members_len-data ms)

scalar-plain : (s : Scalar) → written.has_float (scalar_data s) ≡ false
scalar-plain (text s) = refl
scalar-plain (whole (pos n)) = refl
scalar-plain (whole (negsuc n)) = refl
scalar-plain (truth b) = refl

mutual
  pub data_of-plain : (v : model.Json) → written.has_float (data_of v) ≡ false
  data_of-plain (scalar s) = scalar-plain s
  data_of-plain (list vs) = items-plain vs
  data_of-plain (object ms) = members-plain ms

  items-plain : (vs : Items) → written.items_have_float (items_data vs) ≡ false
  items-plain no_items = refl
  items-plain (item v vs) = rw (data_of-plain v, items-plain vs) refl

  members-plain : (ms : Members) → written.members_have_float (members_data ms) ≡ false
  members-plain no_members = refl
  members-plain (member k v ms) = rw (data_of-plain v, members-plain ms) refl
