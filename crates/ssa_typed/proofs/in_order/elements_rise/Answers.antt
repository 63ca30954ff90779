use Rattle.std.proofs.Common.{◌≡◌, ◌-◌, suc, drop, Some, Less, sym, ap, subst, ◌∙◌, arith, true}
use Rattle.ssa_path.specs.Children.{elements, heads_order, rises}
use Rattle.ssa_typed.proofs.Rising.{rising-before}
use Rattle.ssa_typed.proofs.in_order.elements_rise.Goals as goal

pub loop-place-preserved : goal.loop-place-preserved
loop-place-preserved c =
    let cs = c.args.children.now in
    let next : c.loop-place.place ≡ suc (c.loop-place.place - 1) = omega arith in
    rising-before cs (c.loop-place.place - 1) (subst (λ k. heads_order (drop (c.loop-place.place - 1) cs) (drop k cs) ≡ Some Less) next
    (sym c.order_at.ensures ∙ c.in-Some-Less.is ∙ ap Some c.in-Some-Less.field-0-is))
    (subst (λ k. rises (elements (drop k cs)) ≡ true) next c.loop-place.invariant)
