-- Texts that are told the same by their bytes.
use Rattle.std.proofs.Common.{◌≡◌, bytes_eq, sym}
use Rattle.std.proofs.lemmas.Map.Text.{is_eq-slice_cmp}
use Rattle.ssa_model.specs.definitions.Json.{Text, same_text}

-- comparing bytes is comparing texts
pub by_bytes : (s t : Text) → bytes_eq s t ≡ same_text s t
by_bytes s t = sym (is_eq-slice_cmp s t)
