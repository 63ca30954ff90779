-- The text that a name stands for.
use Rattle.std.specs.Prelude.{ℕ, List, String, length, ◌<◌, ◌≤◌, ◌^◌, IsUtf8}
use Rattle.std.specs.Coded.{Coded}
use Rattle.std.specs.contracts.alloc.Global as heap
use Rattle.std.specs.contracts.impls.GlobalAllocator.TheImpl.{ghosts}
use Rattle.std.specs.contracts.string.String as text
use Rattle.std.specs.declared.alloc.Global.{Global}
use Rattle.std.proofs.Common.{le_refl, le_trans, lit<, lt_of_le_of_lt, refl, subst, sym}
use Rattle.std.proofs.Math.Nat.{min-le_left}
use Rattle.std.proofs.lemmas.List.{length-take}
use Rattle.ssa_members.specs.ShortTexts.{short_bytes}
use Rattle.ssa_members.specs.SmallTexts.{place_bytes}
use Rattle.ssa_members.specs.declared.short_text.ShortText.{ShortText}
use Rattle.ssa_members.specs.declared.small_text.Place.{Place}
use Rattle.ssa_members.specs.declared.small_text.Place.TheVariants.{Within, Beyond}
use denote.RawPtr.{null_ptr}

-- how a string is stored
abbrev pub string_code : Coded (String Global)
string_code = (text.the_row heap.the_row ghosts).coded

-- a string has room for a short text
pub short_fits : (s : ShortText) → length (short_bytes s) < 2 ^ 63
short_fits s =
    lt_of_le_of_lt (le_trans (subst (λ n. n ≤ s.len) (sym (length-take s.len s.bytes)) (min-le_left s.len (length s.bytes))) s.within) (lit< tt)

-- a string with these bytes
abbrev pub spelled : (bs : List ℕ) → ∥ IsUtf8 bs ∥₁ → length bs < 2 ^ 63 → String Global
spelled bs utf8 small = record {
  bytes = record {
    ptr = null_ptr;
    len = length bs;
    cap = length bs;
    alloc = record { memory = record { seal = tt } };
    items = bs;
    ok = (refl, le_refl (length bs));
    small = small;
  };
  ok = utf8;
}

-- the string with the bytes of a text: a long text is held as a string already
abbrev pub string_at : (p : Place) → ∥ IsUtf8 (place_bytes p) ∥₁ → String Global
string_at (Within s) u = spelled (short_bytes s) u (short_fits s)
string_at (Beyond s) u = s.value
