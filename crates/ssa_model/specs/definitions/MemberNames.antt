-- The names of objects' members: none twice, and in the order of their bytes.
use Rattle.std.specs.Prelude.{Bool, true, ◌&&◌}
use Rattle.std.specs.Ordering.{is_lt, nat_cmp}
use Rattle.std.specs.Cmp.Lexicographic.{slice_cmp}
use Rattle.ssa_model.specs.definitions.Json.{Text, Json, scalar, list, object, Items, no_items, item, Members, no_members, member, member_of}
use Rattle.ssa_model.specs.definitions.Objects.{is_missing}

-- no object names a member twice, at any depth
abbrev mutual
  pub has_distinct_names : Json → Bool
  has_distinct_names (scalar s) = true
  has_distinct_names (list vs) = items_have_distinct_names vs
  has_distinct_names (object ms) = are_distinct_members ms

  pub items_have_distinct_names : Items → Bool
  items_have_distinct_names no_items = true
  items_have_distinct_names (item v vs) = has_distinct_names v && items_have_distinct_names vs

  pub are_distinct_members : Members → Bool
  are_distinct_members no_members = true
  are_distinct_members (member n v ms) = is_missing (member_of n ms) && (has_distinct_names v && are_distinct_members ms)

-- the name is below the first of the members
abbrev pub is_below : Text → Members → Bool
is_below n no_members = true
is_below n (member m v ms) = is_lt (slice_cmp nat_cmp n m)

-- the names of each object's members rise by their bytes, at any depth
abbrev mutual
  pub has_rising_names : Json → Bool
  has_rising_names (scalar s) = true
  has_rising_names (list vs) = items_have_rising_names vs
  has_rising_names (object ms) = members_rise ms

  pub items_have_rising_names : Items → Bool
  items_have_rising_names no_items = true
  items_have_rising_names (item v vs) = has_rising_names v && items_have_rising_names vs

  pub members_rise : Members → Bool
  members_rise no_members = true
  members_rise (member n v ms) = is_below n ms && (has_rising_names v && members_rise ms)
