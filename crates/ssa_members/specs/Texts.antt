-- The bytes of a small text.
use Rattle.std.specs.Prelude.{ℕ, List, Bool}
use Rattle.ssa_members.specs.SmallTexts.{is_within, place_bytes}
use Rattle.ssa_members.specs.declared.small_text.SmallText.{SmallText}

abbrev pub text_bytes : SmallText → List ℕ
text_bytes t = place_bytes t.place

-- it takes no memory of its own
abbrev pub is_short : SmallText → Bool
is_short t = is_within t.place
