use Rattle.std.proofs.Common.{◌≡◌, ◌∷◌, [], ◌++◌, sym, ap, subst, ◌∙◌}
use Rattle.std.proofs.lemmas.List.{map-append}
use Rattle.ssa_path.specs.View.{element_view, path_view}
use Rattle.ssa_typed.proofs.Lookups.{tree-child}
use Rattle.ssa_record.specs.Places.{maps_of}
use Rattle.ssa_record.specs.Spots.{IsFieldBelow, IsLower}
use Rattle.ssa_record.proofs.Spots.{item-lower}
use Rattle.ssa_record.proofs.item_spot.into_item.Goals as goal

pub field_below-requires : goal.field_below-requires
field_below-requires c = tree-child c.args.spot.now.node.now (element_view c.in-Some.element.now) c.in-Some.item.node.now c.requires c.in-Some.ensures.node

pub returns-in_ok-push-in-Some-field_below : goal.returns-in_ok-push-in-Some-field_below
returns-in_ok-push-in-Some-field_below c =
    let m = maps_of c.args.told.now in
    let p = path_view c.args.path.now.items in
    let outer = c.in-Some.element.now in
    let inner = c.in-Some-field_below.element.now in
    let item = c.in-Some.item in
    let below = c.in-Some-field_below.below in
    let at : path_view c.push.new.self.items ≡ p ++ element_view outer ∷ [] =
    ap path_view c.in_ok-push.ensures.items ∙ map-append element_view c.args.path.now.items (c.in_ok-copied.copied ∷ [])
    ∙ ap (λ e. p ++ e ∷ []) c.in_ok-copied.ensures in
    let there : path_view c.push-in-Some-field_below.new.self.items ≡ (p ++ element_view outer ∷ []) ++ element_view inner ∷ [] =
    ap path_view c.in_ok-push-in-Some-field_below.ensures.items
    ∙ map-append element_view c.push.new.self.items (c.in_ok-copied-in-Some-field_below.copied ∷ [])
    ∙ (λ i. at i ++ c.in_ok-copied-in-Some-field_below.ensures i ∷ []) in
    let field = subst (λ g. IsFieldBelow m g item inner below) (ap path_view c.deref.ensures.value ∙ at) c.in-Some-field_below.ensures in
    subst (λ g. IsLower m p c.args.spot.now g below) (sym there) (item-lower m p c.args.spot.now below item outer inner c.requires c.in-Some.ensures field)
