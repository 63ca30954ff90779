use Rattle.std.proofs.Common.{◌≤◌, ap, subst, sym, ◌∙◌, drop, length, take}
use Rattle.ssa_path.specs.Children.{child_at, elements, rises, IsChildAt}
use Rattle.ssa_path.specs.View.{element_view}
use Rattle.ssa_turn_set.proofs.Reaching.{left-all, near-child, rises-near}
use Rattle.ssa_turn_set.proofs.siblings.place_from.Goals as goal

pub place_of-place-requires-clause-rise : goal.place_of-place-requires-clause-rise
place_of-place-requires-clause-rise c =
    let all = left-all c.args.children.now c.args.start in
    ap (λ l. rises (elements (take c.reach.result l))) all ∙ rises-near (drop c.args.start c.args.children.now) c.reach.result c.requires.rise

pub place_of-place-requires-clause-present : goal.place_of-place-requires-clause-present
place_of-place-requires-clause-present c none =
    let e = element_view c.args.element.now in
    let all = left-all c.args.children.now c.args.start in
    c.requires.present (ap (child_at e) (sym all) ∙ sym c.reach.ensures.enough ∙ none)

pub returns-clause-child : goal.returns-clause-child
returns-clause-child c =
    let e = element_view c.args.element.now in
    let cs = c.args.children.now in
    let all = left-all cs c.args.start in
    let within : c.reach.result ≤ length (drop c.args.start cs) = subst (λ l. c.reach.result ≤ length l) all c.reach.ensures.within in
    let at : IsChildAt e (take c.reach.result (drop c.args.start cs)) c.place_of-place.result =
    subst (λ l. IsChildAt e (take c.reach.result l) c.place_of-place.result) all c.place_of-place.ensures in
    near-child e cs c.args.start c.reach.result c.place_of-place.result within at
