-- What lists of paths are written as, on the way down.
use Rattle.std.specs.Prelude.{◌≡◌, ◌≢◌, List, [], Bool, true, false, codes, if◌then◌else◌}
use Rattle.ssa_model.specs.definitions.Json.{Text, Json, Members, no_members, member}
use Rattle.ssa_model.specs.definitions.Path.{Path}
use Rattle.ssa_model.specs.definitions.FieldsV1.{is_place_alone, longest, nothing_written, written_paths, dot_alone, IsCanonical}

-- the object of the paths
abbrev pub paths_json : List Path → Json
paths_json ps = written_paths (longest ps) ps

-- what stands under an element, where these are the paths that go on from it
abbrev pub below_json : List Path → Json
below_json ps = if is_place_alone ps then nothing_written else paths_json ps

-- the member `.` alone, or none
abbrev pub dot_members : Bool → Members
dot_members true = member (codes ".") nothing_written no_members
dot_members false = no_members

-- the text of that member, without a comma
abbrev pub dot_text : Bool → Text
dot_text true = codes "\".\":{}"
dot_text false = []

-- the value stands under an element, in the one writing of the paths that go on from it
pub record IsWrittenBelow (ps : List Path) (v : Json) : Type 0 where
  pub json : v ≡ below_json ps
  pub not_dot : v ≢ dot_alone
  pub canonical : IsCanonical v
