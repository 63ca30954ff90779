use Rattle.std.proofs.Common.{◌≡◌, ◌∷◌, [], ◌++◌, sym, ap, subst, ◌∙◌}
use Rattle.std.proofs.lemmas.List.{map-append}
use Rattle.ssa_path.specs.View.{element_view, path_view}
use Rattle.ssa_record.specs.Places.{maps_of}
use Rattle.ssa_record.specs.Spots.{IsLower, IsSpotBelow}
use Rattle.ssa_record.proofs.Spots.{field-lower}
use Rattle.ssa_record.proofs.field_spot.into_field.Goals as goal

pub returns-in_ok-push-in-Some : goal.returns-in_ok-push-in-Some
returns-in_ok-push-in-Some c =
    let m = maps_of c.args.told.now in
    let p = path_view c.args.path.now.items in
    let element = c.in-Some.element.now in
    let below = c.in-Some.below in
    let there : path_view c.push.new.self.items ≡ p ++ element_view element ∷ [] =
    ap path_view c.in_ok-push-in-Some.ensures.items ∙ map-append element_view c.args.path.now.items (c.in_ok-copied-in-Some.copied ∷ [])
    ∙ ap (λ e. p ++ e ∷ []) c.in_ok-copied-in-Some.ensures in
    let found = subst (λ g. IsSpotBelow m g c.args.spot.now element below) (ap path_view c.deref.ensures.value) c.in-Some.ensures in
    subst (λ g. IsLower m p c.args.spot.now g below) (sym there) (field-lower m p c.args.spot.now below element c.requires found)
