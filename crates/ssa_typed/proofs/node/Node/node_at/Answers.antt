use Rattle.std.proofs.Common.{ap, sym, ◌∙◌, arith}
use Rattle.std.specs.Option.{option_copied}
use Rattle.ssa_path.specs.View.{path_view}
use Rattle.ssa_typed.proofs.Lookups.{way-step, way-none}
use Rattle.ssa_typed.proofs.node.Node.node_at.Goals as goal

pub returns-in-None-clause-none : goal.returns-in-None-clause-none
returns-in-None-clause-none c =
    let path = c.args.path.now in
    way-none c.args.self.now c.loop-element.node.now (path_view path) path c.loop-element.element-index c.element-item.result
    (omega arith) c.element-item.is (sym c.child.ensures ∙ ap option_copied c.in-None.is) c.loop-element.invariant

pub loop-element-preserved : goal.loop-element-preserved
loop-element-preserved c =
    let path = c.args.path.now in
    way-step c.args.self.now c.loop-element.node.now c.in-Some.child.now (path_view path) path c.loop-element.element-index c.element-item.result
    (omega arith) c.element-item.is (sym c.child.ensures ∙ ap option_copied c.in-Some.is) c.loop-element.invariant
