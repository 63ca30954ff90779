-- Texts that need no escapes.
use Rattle.std.proofs.Common.{◌≡◌, true, sym, ◌∙◌, length}
use Rattle.json.specs.Written.{PlainBetween}
use Rattle.json.proofs.Printed.Plain.{escape_on_plain}
use Rattle.ssa_model.specs.definitions.Json.{Text, escaped}
use Rattle.ssa_json.proofs.Printing.{escape-is}

-- a text in which no byte needs an escape stands between quotes as it is
pub escaped-plain : (t : Text) → PlainBetween t 0 (length t) → t ≡ escaped t
escaped-plain t plain = sym (sym (escape-is t) ∙ escape_on_plain true t plain)
