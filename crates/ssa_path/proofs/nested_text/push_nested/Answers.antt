use Rattle.std.proofs.Common.{◌++◌, sym, ap, ◌∙◌}
use Rattle.std.proofs.lemmas.Result.{on_ok_weaker}
use Rattle.ssa_model.specs.definitions.Json.{escaped}
use Rattle.ssa_path.proofs.NestedTexts.{escaped-quoted}
use Rattle.ssa_path.proofs.nested_text.push_nested.Goals as goal

pub returns-then-has_no_escapes : goal.returns-then-has_no_escapes
returns-then-has_no_escapes c =
    let plain = sym (ap escaped c.as_bytes.ensures.value) ∙ c.if-has_no_escapes.ensures ∙ c.as_bytes.ensures.value in
    on_ok_weaker c.push_plain_nested.result (λ written. written ∙ ap (λ t. c.args.text.now.items ++ t) (sym (escaped-quoted c.args.string.now plain)))
    c.push_plain_nested.ensures
