use Rattle.std.proofs.Common.{◌≡◌, true, rules, ap, sym, ◌∙◌, to_z, of_z, w64}
use Rattle.serde_json.specs.Read.{number_of}
use Rattle.ssa_json.specs.Written.{is_narrow_whole}
use Rattle.std.proofs.lemmas.Slice.Eq.{bytes_eq-Decides}
use Rattle.ssa_json.proofs.StraightData.{number_is}
use Rattle.ssa_json.proofs.straight.whole_number.Goals as goal

pub returns-then-eq-clause-number : goal.returns-then-eq-clause-number
returns-then-eq-clause-number c =
    let narrow : is_narrow_whole (to_z w64 (of_z w64 c.in-Ok.number)) ≡ true = search rules in
    let same : c.format.result.now ≡ c.args.text.now = (bytes_eq-Decides c.format.result.now c.args.text.now).0 (sym c.eq.ensures ∙ c.if-eq.true) in
    ap number_of (sym same ∙ c.format.ensures.text) ∙ number_is (to_z w64 (of_z w64 c.in-Ok.number)) narrow
