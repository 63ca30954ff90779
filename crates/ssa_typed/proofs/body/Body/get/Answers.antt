use Rattle.std.proofs.Common.{Some, ap, ◌∙◌}
use Rattle.ssa_typed.specs.Look.{look_at}
use Rattle.ssa_typed.proofs.Looks.{looked, looked-nowhere}
use Rattle.ssa_typed.proofs.body.Body.get.Goals as goal

pub returns-in-Some : goal.returns-in-Some
returns-in-Some c =
    let way = rw c.elements.ensures at c.in-Some.ensures.some in
    ap Some c.look.ensures ∙ looked c.self.inside.root c.in-Some.node.now c.args.path.now way c.in-Some.ensures.tree
    ∙ ap (λ b. look_at b c.args.path.now) c.self.view_is

pub returns-in-None : goal.returns-in-None
returns-in-None c =
    let way = rw c.elements.ensures at c.in-None.ensures.none in
    looked-nowhere c.self.inside.root c.args.path.now way ∙ ap (λ b. look_at b c.args.path.now) c.self.view_is
