-- That what a set is written as is read back as the set.
use Rattle.std.specs.Prelude.{◌≡◌, List, []}
use Rattle.ssa_model.specs.definitions.FieldsV1.{fields_faults, said_paths, said_set, fields_json, IsCanonical}
use Rattle.ssa_model.specs.definitions.Json.{Json}
use Rattle.ssa_model.specs.definitions.Path.{Path}
use Rattle.ssa_model.specs.definitions.PathMap.{PathSet}
use Rattle.ssa_json.specs.Reading.{json_reading}
use Rattle.ssa_path.specs.FieldsWriting.{paths_json}

-- the set's own writing has no fault, and says the set
pub record IsReadBack (s : PathSet) : Type 0 where
  pub no_fault : fields_faults json_reading (fields_json s) ≡ []
  pub says : said_set json_reading (fields_json s) ≡ s

-- so it is of the paths of a place
pub record AreReadBack (ps : List Path) : Type 0 where
  pub no_fault : fields_faults json_reading (paths_json ps) ≡ []
  pub said : said_paths json_reading (paths_json ps) ≡ ps

-- each canonical value has no fault
abbrev pub CanonicalIsRead : Type 0
CanonicalIsRead = (v : Json) → IsCanonical v → fields_faults json_reading v ≡ []
