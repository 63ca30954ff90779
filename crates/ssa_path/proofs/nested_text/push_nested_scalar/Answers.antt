use Rattle.std.proofs.Common.{◌≡◌, ◌++◌, sym, ap, ◌∙◌}
use Rattle.std.proofs.lemmas.Result.{on_ok_weaker}
use Rattle.ssa_model.specs.definitions.Json.{escaped, scalar_text}
use Rattle.ssa_json.specs.View.{scalar_view}
use Rattle.ssa_path.proofs.NestedTexts.{whole-plain}
use Rattle.ssa_path.proofs.nested_text.push_nested_scalar.Goals as goal

pub returns-in-Int-clause-text : goal.returns-in-Int-clause-text
returns-in-Int-clause-text c =
    let own = scalar_text (scalar_view c.args.scalar.now) in
    let plain : escaped own ≡ own = rw c.in-Int.is (whole-plain c.in-Int.field-0) in
    on_ok_weaker c.push_scalar.result (λ written. written ∙ ap (λ t. c.args.text.now.items ++ t) (sym plain)) c.push_scalar.ensures.text
