use Rattle.std.proofs.Common.{sym, ap, ◌∙◌, arith}
use Rattle.ssa_model.specs.definitions.Path.{same_element}
use Rattle.ssa_path.specs.declared.element.Elem.{Elem}
use Rattle.ssa_path.specs.View.{element_view}
use Rattle.ssa_typed.specs.declared.node.Node.{Node}
use Rattle.ssa_typed.proofs.Pairs.{alike-more}
use Rattle.ssa_typed.proofs.in_order.stand_alike.Goals as goal

pub loop-i-preserved : goal.loop-i-preserved
loop-i-preserved c =
    let e = element_view c.index-own-i.result.0 in
    let same = ap (λ (d : Elem × Node). same_element e (element_view d.0)) c.index-others-i.is ∙ sym c.is_same.ensures ∙ c.if-not-is_same.false in
    alike-more c.args.own.now c.args.others.now c.loop-i.i c.index-own-i.result c.index-others-i.result (omega arith) (omega arith) c.index-own-i.is
    c.index-others-i.is same c.loop-i.invariant
