-- Texts of ASCII are UTF-8.
use Rattle.std.proofs.Common.{◌≡◌, ◌∷◌, [], true, ◌&&◌, ltb-true}
use Rattle.std.proofs.lemmas.Bool.{and_parts}
use Rattle.std.proofs.lemmas.Str.Ascii.{IsAscii-nil, IsAscii-cons}
use Rattle.std.proofs.lemmas.Str.{IsUtf8-from_ascii, is_utf8-from_IsUtf8}
use Rattle.std.specs.Prelude.{Bool, nat_lt}
use Rattle.std.specs.Str.{IsAscii, is_utf8}
use Rattle.ssa_model.specs.definitions.Json.{Text}

-- each byte is one of ASCII
abbrev pub are_small : Text → Bool
are_small [] = true
are_small (b ∷ bs) = nat_lt b 128 && are_small bs

ascii : (t : Text) → are_small t ≡ true → IsAscii t
ascii [] h = IsAscii-nil
ascii (b ∷ bs) h =
    let parts = and_parts (nat_lt b 128) (are_small bs) h in
    IsAscii-cons b bs (ltb-true b 128 parts.0) (ascii bs parts.1)

-- a text of such bytes is UTF-8
pub ascii-is-utf8 : (t : Text) → are_small t ≡ true → is_utf8 t ≡ true
ascii-is-utf8 t h = is_utf8-from_IsUtf8 t (IsUtf8-from_ascii t (ascii t h))
