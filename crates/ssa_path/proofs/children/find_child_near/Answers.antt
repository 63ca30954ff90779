use Rattle.std.proofs.Common.{sym}
use Rattle.ssa_path.specs.View.{element_view}
use Rattle.ssa_path.proofs.Searching.{child-found}
use Rattle.ssa_path.proofs.children.find_child_near.Goals as goal

pub returns-in-Some : goal.returns-in-Some
returns-in-Some g c =
    let found = c.in-Some.ensures.some in
    sym (child-found (element_view c.args.element.now) c.args.children.now c.in-Some.i c.index-children-i.result c.requires found.within
    (found.same c.index-children-i.result))
