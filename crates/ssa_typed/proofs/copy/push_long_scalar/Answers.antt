use Rattle.std.proofs.Common.{refl, ap}
use Rattle.ssa_model.specs.definitions.Body.{leaf}
use Rattle.ssa_model.specs.definitions.Path.{field}
use Rattle.ssa_typed.specs.declared.node.Leaf.TheVariants.{Scalar}
use Rattle.ssa_typed.proofs.Copying.{kept-leaf}
use Rattle.ssa_typed.proofs.copy.push_long_scalar.Goals as goal

pub returns : goal.returns
returns c =
    (_, ap field c.copy_short.ensures, kept-leaf _ (Scalar c.args.scalar.now) _ (ap leaf c.in_ok-copy.ensures) refl, c.in_ok-push.ensures.items)
