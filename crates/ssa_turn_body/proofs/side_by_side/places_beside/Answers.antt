use Rattle.std.proofs.Common.{sym, ap, ◌∙◌, Some}
use Rattle.ssa_turn_body.proofs.Beside.{beside-both, beside-end, beside-other, beside-own, beside-start}
use Rattle.ssa_turn_body.proofs.side_by_side.places_beside.Goals as goal

pub loop-order-init : goal.loop-order-init
loop-order-init c = beside-start c.args.own.now c.args.others.now c.in_ok-found.found.items c.requires.own c.requires.others c.in_ok-found.ensures.items

pub loop-order-preserved-in-Less : goal.loop-order-preserved-in-Less
loop-order-preserved-in-Less c =
    beside-own c.args.own.now c.args.others.now c.loop-order.i c.loop-order.j c.loop-order.found.items c.loop-order.invariant
    (sym c.order_at.ensures ∙ c.in-Some.is ∙ ap Some c.in-Less.is)

pub loop-order-preserved-in-Greater : goal.loop-order-preserved-in-Greater
loop-order-preserved-in-Greater c =
    beside-other c.args.own.now c.args.others.now c.loop-order.i c.loop-order.j c.loop-order.found.items c.loop-order.invariant
    (sym c.order_at.ensures ∙ c.in-Some.is ∙ ap Some c.in-Greater.is) c.push.new.self.items c.in_ok-push-in-Greater.ensures.items

pub loop-order-preserved : goal.loop-order-preserved
loop-order-preserved c =
    beside-both c.args.own.now c.args.others.now c.loop-order.i c.loop-order.j c.loop-order.found.items c.loop-order.invariant
    (sym c.order_at.ensures ∙ c.in-Some.is ∙ ap Some c.in-Equal.is) c.push-in-Equal.new.self.items c.in_ok-push-in-Equal.ensures.items

pub returns : goal.returns
returns c =
    beside-end c.args.own.now c.args.others.now c.loop-order.i c.loop-order.j c.loop-order.found.items c.loop-order.invariant
    (sym c.order_at.ensures ∙ c.in_default.is)
