-- What a value of each sort is seen as.
use Rattle.std.proofs.Common.{◌≡◌, Global, Vec, rules}
use Rattle.ssa_members.specs.Members.{Members as Entries}
use Rattle.ssa_model.specs.definitions.Json.{scalar, list, object}
use Rattle.ssa_json.specs.View.{view, scalar_view, items_view, members_view}
use Rattle.ssa_json.specs.declared.value.Json.{Json, Scalar as scalar_json, List as list_json, Object, the_lemmas}
use Rattle.ssa_json.specs.declared.value.Scalar.{Scalar}

-- a scalar of the program is seen as the scalar that it stands for
pub view-Scalar : (s : Scalar) → view (scalar_json s) ≡ scalar (scalar_view s)
view-Scalar s = search (rules, the_lemmas)

-- a list of the program is seen as a list of its items
pub view-List : (v : Vec Json Global) → view (list_json v) ≡ list (items_view v.items)
view-List v = search (rules, the_lemmas)

-- an object of the program is seen as the members of its map
pub view-Object : (m : Entries Json) → view (Object m) ≡ object (members_view m.entries)
view-Object m = search (rules, the_lemmas)
