use Rattle.std.proofs.Common.{[], false, not, refl, ap, subst, ◌∙◌}
use Rattle.ssa_path.specs.Listing.{way_view}
use Rattle.ssa_typed.specs.Rows.{leaf_content}
use Rattle.ssa_turn_body.specs.Led.{MayAdd}
use Rattle.ssa_turn_body.specs.Told.{from_place}
use Rattle.ssa_turn_body.specs.declared.change.PlaceChange.TheVariants.{Leaf as LeafChange}
use Rattle.ssa_turn_body.proofs.Recording.{leading-leaf, leading-same, leaves-same, swapped-back}
use Rattle.ssa_turn_body.proofs.walk.push_leaf.Goals as goal

pub returns : goal.returns
returns c =
    let other = c.same_leaf.ensures ∙ ap not c.if-same_leaf.false in
    let old = c.args.steps.now.items in
    let new = c.push_step.new.steps.items in
    leading-leaf (way_view c.args.way.now) c.args.own.now c.args.to.now old new other (swapped-back c.args.own.now c.args.to.now ∙ other)
    (subst (λ l. MayAdd false (way_view c.args.way.now) (LeafChange (record { leaf = l })) old new) c.replace-leaf.ensures.value c.in_ok-push_step.ensures)

pub returns-then-same_leaf : goal.returns-then-same_leaf
returns-then-same_leaf c =
    let same = leaves-same c.args.own.now c.args.to.now (c.same_leaf.ensures ∙ ap not c.if-same_leaf.true) in
    leading-same (way_view c.args.way.now) (from_place (leaf_content c.args.own.now, []))
    (from_place (leaf_content c.args.to.now, [])) c.args.steps.now.items _ refl (λ q. ap (λ x. from_place (x, []) q) same)
