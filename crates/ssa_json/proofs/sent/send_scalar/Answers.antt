use Rattle.std.proofs.Common.{rules}
use Rattle.std.proofs.lemmas.Result.{on_ok_weaker}
use Rattle.ssa_json.proofs.OfProgram.{small_text_is_utf8}
use Rattle.ssa_json.proofs.sent.send_scalar.Goals as goal

pub returns-in-Text-clause-texts : goal.returns-in-Text-clause-texts
returns-in-Text-clause-texts g c =
    let text = small_text_is_utf8 c.in-Text.string in
    on_ok_weaker c.str.result (λ _. search (rules, text)) c.str.ensures
