use Rattle.std.proofs.Common.{[], ◌∷◌, refl}
use Rattle.std.proofs.lemmas.Result.{IfOk-weaker}
use Rattle.ssa_model.specs.definitions.Kind.{fault_at, unknown_field}
use Rattle.ssa_schema.specs.declared.fit.found.Misfit.TheVariants.{UnknownField}
use Rattle.ssa_schema.proofs.Finding.{breaks_here}
use Rattle.ssa_typed.proofs.tested.unknown_field.Goals as goal

pub returns : goal.returns
returns c =
    IfOk-weaker c.below_name.result _ _
    (λ f below. below (λ p. fault_at unknown_field p ∷ [])
    (breaks_here c.here-unknown.result UnknownField (λ p. fault_at unknown_field p ∷ []) c.here-unknown.ensures.misfit c.here-unknown.ensures.path (λ p. refl)))
    c.below_name.ensures
