-- What a value of the program is.
use Rattle.std.specs.Prelude.{List, [], ◌∷◌, map, Option, Some, None, String, string_bytes}
use Rattle.std.specs.declared.alloc.Global.{Global}
use Rattle.ssa_model.specs.definitions.Json as model
use Rattle.ssa_members.specs.Texts.{text_bytes}
use Rattle.ssa_json.specs.declared.value.Scalar.{Scalar}
use Rattle.ssa_json.specs.declared.value.Scalar.TheVariants.{Text, Int, Bool}
use Rattle.ssa_json.specs.declared.value.Json.{Json, fold-Json}
use Rattle.ssa_json.specs.declared.value.Json.TheOpen.{Json-F}

abbrev pub scalar_view : Scalar → model.Scalar
scalar_view (Text s) = model.text (text_bytes s)
scalar_view (Int z) = model.whole z
scalar_view (Bool b) = model.truth b

abbrev pub items_of : List model.Json → model.Items
items_of [] = model.no_items
items_of (v ∷ vs) = model.item v (items_of vs)

abbrev pub members_of : List (String Global × model.Json) → model.Members
members_of [] = model.no_members
members_of (m ∷ ms) = model.member (string_bytes m.0) m.1 (members_of ms)

-- one level, with each value inside already seen
abbrev pub view_step : Json-F model.Json → model.Json
view_step (Json-F.Scalar s) = model.scalar (scalar_view s)
view_step (Json-F.List v) = model.list (items_of v.items)
view_step (Json-F.Object m) = model.object (members_of m.entries)

abbrev pub view : Json → model.Json
view = fold-Json model.Json view_step

abbrev pub items_view : List Json → model.Items
items_view vs = items_of (map view vs)

abbrev pub members_view : List (String Global × Json) → model.Members
members_view ms = members_of (map (λ m. (m.0, view m.1)) ms)

-- the members of an object
abbrev pub as_object : model.Json → Option model.Members
as_object (model.object ms) = Some ms
as_object _ = None
