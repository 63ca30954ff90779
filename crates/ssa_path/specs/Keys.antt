-- The key fields of an item of a list: at least one, in the order of their names' bytes.
use Rattle.std.specs.Prelude.{List, [], ◌∷◌, map, Bool, true, false, ◌&&◌, Option, Some, None, if◌then◌else◌}
use Rattle.std.specs.Coded.{Coded, coded×, coded_list}
use Rattle.std.specs.Ordering.{is_lt, nat_cmp}
use Rattle.std.specs.Cmp.Lexicographic.{slice_cmp}
use Rattle.ssa_model.specs.definitions.Json as model
use Rattle.ssa_model.specs.definitions.Json.{same_text, same_scalar}
use Rattle.ssa_model.specs.codes.Codes.{coded_text, coded_scalar}
use Rattle.ssa_members.specs.Texts.{text_bytes}
use Rattle.ssa_members.specs.declared.small_text.SmallText.{SmallText}
use Rattle.ssa_json.specs.View.{scalar_view}
use Rattle.ssa_json.specs.declared.value.Scalar.{Scalar}

abbrev pub Members : Type 0
Members = List (model.Text × model.Scalar)

abbrev pub coded_members : Coded Members
coded_members = coded_list (coded× coded_text coded_scalar)

abbrev pub members_view : List (SmallText × Scalar) → Members
members_view = map (λ m. (text_bytes m.0, scalar_view m.1))

-- each name stands behind the one before it, the first behind this one
abbrev pub names_rise_after : model.Text → Members → Bool
names_rise_after name [] = true
names_rise_after name (m ∷ ms) = is_lt (slice_cmp nat_cmp name m.0) && names_rise_after m.0 ms

abbrev pub are_keys : Members → Bool
are_keys [] = false
are_keys (m ∷ ms) = names_rise_after m.0 ms

abbrev pub keys_of : Members → Option Members
keys_of ms = if are_keys ms then Some ms else None

-- both key fields have one name and one value
abbrev pub same_key : model.Text × model.Scalar → model.Text × model.Scalar → Bool
same_key k j = same_text k.0 j.0 && same_scalar k.1 j.1
