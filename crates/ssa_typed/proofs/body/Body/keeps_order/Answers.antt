use Rattle.std.proofs.Common.{subst₂, sym}
use Rattle.ssa_typed.specs.KeepsOrder.{KeepsItemOrder}
use Rattle.ssa_typed.proofs.KeepingOrder.{order-bodies, order-trees}
use Rattle.ssa_typed.proofs.body.Body.keeps_order.Goals as goal

pub returns : goal.returns
returns c =
    let n = c.self.inside.root in
    let m = c.config.inside.root in
    let told = c.in_ok-keeps.ensures in (
      λ t. subst₂ KeepsItemOrder c.self.view_is c.config.view_is (order-bodies n m (told.0 t)),
      λ order. told.1 (order-trees n m (subst₂ KeepsItemOrder (sym c.self.view_is) (sym c.config.view_is) order)),
    )
