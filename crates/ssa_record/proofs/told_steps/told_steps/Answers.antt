use Rattle.std.proofs.Common.{◌≡◌, ◌∙◌, [], sym, ap, subst, true≢false}
use Rattle.ssa_path.specs.View.{path_view}
use Rattle.ssa_record.specs.Places.{maps_of, AllTouched}
use Rattle.ssa_record.specs.Spots.{IsSpot}
use Rattle.ssa_record.specs.Standing.{are_few, stand}
use Rattle.ssa_record.proofs.Stands.{told-few, told-stands}
use Rattle.ssa_told.specs.Told.{told_body}
use Rattle.ssa_record.specs.declared.spot.Spot.{Spot}
use Rattle.ssa_record.proofs.LedBodies.{root-touched}
use Rattle.ssa_record.proofs.Spots.{root-spot}
use Rattle.ssa_record.proofs.Touched.{all-touched}
use Rattle.ssa_record.proofs.told_steps.told_steps.Goals as goal

pub steps_there-requires-clause-all : goal.steps_there-requires-clause-all
steps_there-requires-clause-all c = subst AllTouched (sym c.in_ok-places.ensures) (all-touched (told_body c.args.told.now))

pub steps_there-requires-clause-spot : goal.steps_there-requires-clause-spot
steps_there-requires-clause-spot c =
    let m = maps_of c.in_ok-places.places in
    let kind = c.args.schema.now.kind in
    let v = c.args.body.now in
    let s : Spot = record { touched = c.root.result; node = c.root-2.result; kind = c.kind-kind.result } in
    let root : path_view c.new-path.result.items ≡ [] = ap path_view c.new-path.ensures.items in
    let start = root-spot m kind v s c.root-2.ensures.tree c.root-2.ensures.seen c.kind-kind.ensures.same
    (root-touched m c.root.result.now c.root.ensures.trie c.root.ensures.same) in
    c.in_ok-spot.ensures kind v c.requires.fits (subst (λ p. IsSpot m kind v p s) (sym root) start)

pub steps_of_whole-requires-clause-all : goal.steps_of_whole-requires-clause-all
steps_of_whole-requires-clause-all c = subst AllTouched (sym c.in_ok-places.ensures) (all-touched (told_body c.args.told.now))

pub returns-then-not-told_stands-clause-whole : goal.returns-then-not-told_stands-clause-whole
returns-then-not-told_stands-clause-whole c =
    let v = c.args.body.now in
    λ d w takes valid told. true≢false (sym (c.told_stands.ensures ∙ ap (stand v) told ∙ told-stands c.args.schema.now.kind d v w takes)
    ∙ c.if-not-told_stands.true)

pub returns-then-not-told_are_few-clause-whole : goal.returns-then-not-told_are_few-clause-whole
returns-then-not-told_are_few-clause-whole c =
    λ d w takes valid told.
    true≢false (sym (c.told_are_few.ensures ∙ ap are_few told ∙ told-few c.args.schema.now.kind d c.args.body.now w takes c.requires.few valid.few)
    ∙ c.if-not-told_are_few.true)
