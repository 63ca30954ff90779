-- The bytes of a text, wherever they stand.
use Rattle.std.specs.Prelude.{ℕ, List, Bool, true, false, string_bytes}
use Rattle.ssa_members.specs.ShortTexts.{short_bytes}
use Rattle.ssa_members.specs.declared.small_text.Place.{Place}
use Rattle.ssa_members.specs.declared.small_text.Place.TheVariants.{Within, Beyond}

abbrev pub place_bytes : Place → List ℕ
place_bytes (Within s) = short_bytes s
place_bytes (Beyond s) = string_bytes s.value

-- the bytes stand in the value itself
abbrev pub is_within : Place → Bool
is_within (Within s) = true
is_within (Beyond s) = false
