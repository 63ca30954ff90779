use Rattle.std.proofs.Common.{[], subst}
use Rattle.ssa_model.specs.definitions.Kind as kinds
use Rattle.ssa_json.specs.View.{view}
use Rattle.ssa_schema.specs.Finds.{Finds}
use Rattle.ssa_schema.specs.Kinds.{kind_view}
use Rattle.ssa_typed.proofs.Fitting.{no-first}
use Rattle.ssa_typed.proofs.tested.tested_plain.Goals as goal

pub plain_tree-requires-clause-fits : goal.plain_tree-requires-clause-fits
plain_tree-requires-clause-fits c =
    let here = kinds.faults (kind_view c.args.kind.now) (view c.args.value) in
    ([], no-first (here []) (subst (λ o. Finds o here) c.in_default.is c.in_ok-found.ensures []))
