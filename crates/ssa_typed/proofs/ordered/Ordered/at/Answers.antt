use Rattle.std.proofs.Common.{◌<◌, ◌∙◌, ap, length, subst}
use Rattle.std.specs.Prelude.{slice_get}
use Rattle.ssa_typed.specs.InOrder.{referred}
use Rattle.ssa_typed.specs.Ordered.{lent_children}
use Rattle.ssa_typed.proofs.References.{get-reference}
use Rattle.ssa_typed.proofs.ordered.Ordered.at.Goals as goal

pub returns-in-Sorted-clause-read : goal.returns-in-Sorted-clause-read
returns-in-Sorted-clause-read c =
    let rs = c.in-Sorted.children.items in
    let own = ap lent_children c.in-Sorted.is in
    let within : c.args.i < length (referred rs) = subst (λ xs. c.args.i < length xs) own c.requires in
    ap (λ xs. slice_get xs c.args.i) own ∙ get-reference rs c.args.i c.index.result.now within c.index.ensures
