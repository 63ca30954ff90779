use Rattle.std.proofs.Common.{rules, refl, ap, sym, ◌∙◌}
use Rattle.ssa_model.specs.definitions.Body.{leaf}
use Rattle.ssa_model.specs.definitions.Json as values
use Rattle.ssa_model.specs.definitions.Path.{field}
use Rattle.ssa_json.specs.View.{scalar_view}
use Rattle.ssa_typed.specs.declared.node.Leaf.TheVariants.{Scalar}
use Rattle.ssa_typed.proofs.Copying.{kept-leaf}
use Rattle.ssa_typed.proofs.copy.push_scalar.Goals as goal

pub returns-in_ok-push-in-Text : goal.returns-in_ok-push-in-Text
returns-in_ok-push-in-Text c =
    let same = ap (λ b. leaf (values.text b)) c.copy_short.ensures ∙ sym (ap (λ s. leaf (scalar_view s)) c.in-Text.is) in
    (_, ap field c.copy_short-in-Text.ensures, kept-leaf _ (Scalar c.args.scalar.now) _ same refl, c.in_ok-push-in-Text.ensures.items)

pub returns-in_ok-push-in-Int : goal.returns-in_ok-push-in-Int
returns-in_ok-push-in-Int c =
    let own = ap (λ s. leaf (scalar_view s)) c.in-Int.is in (
      _,
      ap field c.copy_short-in-Int.ensures,
      kept-leaf _ (Scalar c.args.scalar.now) _ (search (rules, own)) refl,
      c.in_ok-push-in-Int.ensures.items,
    )
