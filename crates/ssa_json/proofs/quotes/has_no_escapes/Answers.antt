use Rattle.std.proofs.Common.{sym}
use Rattle.std.proofs.lemmas.Bool.{OnTrue_at, OnTrue_from}
use Rattle.ssa_json.proofs.Plain.{escaped-plain}
use Rattle.ssa_json.proofs.quotes.has_no_escapes.Goals as goal

pub returns : goal.returns
returns c =
    OnTrue_from c.are_all_plain.result _ (λ plain. sym (escaped-plain c.args.text.now (OnTrue_at plain c.are_all_plain.ensures)))
