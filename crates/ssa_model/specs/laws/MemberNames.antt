-- What rising names are beside rising.
use Rattle.std.specs.Prelude.{◌≡◌, true}
use Rattle.ssa_model.specs.definitions.Json.{Json}
use Rattle.ssa_model.specs.definitions.MemberNames.{has_distinct_names, has_rising_names}

-- where the names of each object rise, no object names a member twice
abbrev pub RisingIsDistinct : Type 0
RisingIsDistinct = (v : Json) → has_rising_names v ≡ true → has_distinct_names v ≡ true
