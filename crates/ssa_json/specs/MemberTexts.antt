-- The text of an object's members, piece by piece.
use Rattle.std.specs.Prelude.{Bool, [], ◌∷◌, ◌++◌}
use Rattle.ssa_model.specs.definitions.Json.{Text, Json, comma_if, compact, quoted}

-- a member's name and the colon behind it, with a comma in front of each but the first
unfoldable pub name_text : Bool → Text → Text
name_text later n = comma_if later ++ (quoted n ++ 58 ∷ [])

-- a member
unfoldable pub member_text : Bool → Text → Json → Text
member_text later n v = name_text later n ++ compact v
