use Rattle.std.proofs.Common.{◌≡◌, None, IfNone, subst, sym}
use Rattle.ssa_path.specs.Children.{child_at}
use Rattle.ssa_path.specs.View.{element_view}
use Rattle.ssa_path.proofs.Searching.{searched}
use Rattle.ssa_path.proofs.children.find.Goals as goal

pub returns-else-children-le-FEW-clause-none : goal.returns-else-children-le-FEW-clause-none
returns-else-children-le-FEW-clause-none g c =
    let e = element_view c.args.element.now in
    let cs = c.args.children.now in
    subst (λ o. IfNone o (child_at e cs ≡ None)) (sym c.ok.ensures.value) (searched e cs c.halve.result c.halve.ensures).1
