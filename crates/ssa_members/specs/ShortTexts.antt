-- The bytes of a short text.
use Rattle.std.specs.Prelude.{ℕ, List, take}
use Rattle.ssa_members.specs.declared.short_text.ShortText.{ShortText}

abbrev pub short_bytes : ShortText → List ℕ
short_bytes s = take s.len s.bytes
