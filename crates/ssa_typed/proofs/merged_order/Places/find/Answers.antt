use Rattle.std.proofs.Common.{◌≡◌, List, None, subst}
use Rattle.std.specs.Prelude.{IfNone, IfSome}
use Rattle.ssa_path.specs.Children.{child_at, elements, IsChildAt}
use Rattle.ssa_path.specs.View.{element_view}
use Rattle.ssa_typed.specs.MergedOrder.{ArePlacesOf}
use Rattle.ssa_typed.proofs.SortedOut.{scanned-place}
use Rattle.ssa_typed.proofs.Building.{Child}
use Rattle.ssa_typed.proofs.Levels.{rises-apart}
use Rattle.ssa_typed.proofs.merged_order.Places.find.Goals as goal

pub returns-in-AsTheyStand : goal.returns-in-AsTheyStand
returns-in-AsTheyStand c = λ live h.
    let stand = subst (ArePlacesOf live) c.in-AsTheyStand.is h in
    scanned-place (element_view c.args.element.now) live c.scan.result stand.1
    (subst (λ (cs : List Child). IfSome c.scan.result (IsChildAt (element_view c.args.element.now) cs)) stand.0 c.scan.ensures.some)
    (subst (λ (cs : List Child). IfNone c.scan.result (child_at (element_view c.args.element.now) cs ≡ None)) stand.0 c.scan.ensures.none)

pub returns-in-Rising : goal.returns-in-Rising
returns-in-Rising c = λ live h.
    let stand = subst (ArePlacesOf live) c.in-Rising.is h in
    scanned-place (element_view c.args.element.now) live c.find.result (rises-apart (elements live) stand.1)
    (subst (λ (cs : List Child). IfSome c.find.result (IsChildAt (element_view c.args.element.now) cs)) stand.0 c.find.ensures.some)
    (subst (λ (cs : List Child). IfNone c.find.result (child_at (element_view c.args.element.now) cs ≡ None)) stand.0 c.find.ensures.none)
