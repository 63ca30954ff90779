-- A small text is text.
use Rattle.std.proofs.Common.{IsUtf8}
use Rattle.std.proofs.lemmas.Str.{IsUtf8-had}
use Rattle.ssa_members.specs.Texts.{text_bytes}
use Rattle.ssa_members.specs.declared.small_text.SmallText.{SmallText}

pub text_is_utf8 : (t : SmallText) → IsUtf8 (text_bytes t)
text_is_utf8 t = IsUtf8-had _ t.utf8
