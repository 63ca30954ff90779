use Rattle.std.proofs.Common.{[], ◌∷◌, ◌++◌, sym, ap, ◌∙◌}
use Rattle.std.proofs.lemmas.Result.{on_ok_weaker}
use Rattle.ssa_model.specs.definitions.Json.{escaped}
use Rattle.ssa_json.proofs.write.push_string.Goals as goal

pub returns-then-has_no_escapes : goal.returns-then-has_no_escapes
returns-then-has_no_escapes c =
    let plain = sym (ap escaped (sym c.as_bytes.ensures.value) ∙ c.if-has_no_escapes.ensures ∙ c.as_bytes.ensures.value) in
    on_ok_weaker c.push_plain.result (λ written. written ∙ ap (λ t. c.args.text.now.items ++ 34 ∷ (t ++ 34 ∷ [])) plain) c.push_plain.ensures
