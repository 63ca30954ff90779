-- The values whose compact text is read back.
use Rattle.std.specs.Prelude.{◌≡◌, ◌≤◌, Bool, true, ◌&&◌, Ok}
use Rattle.std.specs.Str.{is_utf8}
pub use Rattle.serde_json.specs.Read.{max_depth}
pub use Rattle.ssa_model.specs.definitions.Json.{depth, items_depth, members_depth}
pub use Rattle.ssa_model.specs.definitions.MemberNames.{is_below, has_rising_names, items_have_rising_names, members_rise}
use Rattle.ssa_model.specs.definitions.Json.{Scalar, text, whole, truth, Json, scalar, list, object, Items, no_items, item, Members, no_members, member, compact}
use Rattle.ssa_json.specs.Reading.{json_reading}
use Rattle.ssa_json.specs.Written.{is_narrow}

abbrev pub is_utf8_scalar : Scalar → Bool
is_utf8_scalar (text t) = is_utf8 t
is_utf8_scalar (whole z) = true
is_utf8_scalar (truth b) = true

-- each text and each name is UTF-8
abbrev mutual
  pub has_utf8 : Json → Bool
  has_utf8 (scalar s) = is_utf8_scalar s
  has_utf8 (list vs) = items_have_utf8 vs
  has_utf8 (object ms) = members_have_utf8 ms

  pub items_have_utf8 : Items → Bool
  items_have_utf8 no_items = true
  items_have_utf8 (item v vs) = has_utf8 v && items_have_utf8 vs

  pub members_have_utf8 : Members → Bool
  members_have_utf8 no_members = true
  members_have_utf8 (member n v ms) = is_utf8 n && (has_utf8 v && members_have_utf8 ms)

-- what each value of the program has
pub record IsOfProgram (v : Json) : Type 0 where
  pub narrow : is_narrow v ≡ true
  pub texts : has_utf8 v ≡ true
  pub names : has_rising_names v ≡ true

-- it is no deeper than the reader goes, too
pub record IsWritable (v : Json) : Type 0 where
  pub of_program : IsOfProgram v
  pub shallow : depth v ≤ max_depth

-- the compact text is the value's own: reading it gives the value back
abbrev pub CompactIsRead : Type 0
CompactIsRead = (v : Json) → IsWritable v → json_reading (compact v) ≡ Ok v
