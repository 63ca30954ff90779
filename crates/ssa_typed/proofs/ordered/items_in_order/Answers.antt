use Rattle.std.proofs.Common.{refl}
use Rattle.ssa_typed.proofs.References.{standing-order}
use Rattle.ssa_typed.proofs.ordered.items_in_order.Goals as goal

pub returns-then-elements_rise : goal.returns-then-elements_rise
returns-then-elements_rise c =
    let items = c.args.items.now in
    standing-order items items items refl refl (c.elements_rise.ensures c.if-elements_rise.true)
