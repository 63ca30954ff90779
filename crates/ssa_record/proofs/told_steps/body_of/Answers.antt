use Rattle.std.proofs.Common.{◌≡◌, ◌<◌, [], Err, sym, ap, subst, ◌∙◌, arith}
use Rattle.std.proofs.lemmas.Option.{none-some}
use Rattle.std.specs.Prelude.{option_map}
use Rattle.ssa_model.specs.definitions.Body.{flat}
use Rattle.ssa_model.specs.definitions.Kind.{faults}
use Rattle.ssa_model.specs.definitions.Limits.{most_places}
use Rattle.ssa_model.specs.definitions.PathMap.{size}
use Rattle.ssa_model.proofs.FlatOfShown.{flat_of_shown}
use Rattle.ssa_model.proofs.ShownFits.{shown_fits}
use Rattle.ssa_schema.specs.Finds.{told}
use Rattle.ssa_schema.specs.Refusals.{first_of}
use Rattle.ssa_typed.specs.Reads.{ReadsBody}
use Rattle.ssa_json.specs.View.{view}
use Rattle.ssa_record.proofs.told_steps.body_of.Goals as goal

pub returns-in-Ok-clause-read : goal.returns-in-Ok-clause-read
returns-in-Ok-clause-read c = λ w valid shows.
    let kind = c.args.schema.now.kind in
    let read = subst (λ r. ReadsBody r kind (view c.args.value)) c.in-Ok.is c.from_json.ensures.read in
    read.1.0 ∙ ap (flat kind) shows ∙ flat_of_shown kind w c.kind-kind.ensures.accepted.lawful valid.fits valid.rooted

pub returns-in-Err-Body-clause-read : goal.returns-in-Err-Body-clause-read
returns-in-Err-Body-clause-read c = λ w valid shows.
    let kind = c.args.schema.now.kind in
    let none : faults kind (view c.args.value) [] ≡ [] = ap (λ v. faults kind v []) shows ∙ shown_fits kind w c.kind-kind.ensures.accepted.lawful valid.fits in
    let read = subst (λ r. ReadsBody r kind (view c.args.value)) (c.in-Err-Body.is ∙ ap Err c.in-Err-Body.field-0-is) c.from_json.ensures.read in
    none-some _ (sym (read ∙ ap (λ fs. option_map told (first_of fs)) none))

pub returns-clause-read : goal.returns-clause-read
returns-clause-read c = λ w valid shows.
    let kind = c.args.schema.now.kind in
    let read = subst (λ r. ReadsBody r kind (view c.args.value)) (c.in-Err-TooManyPaths.is
    ∙ ap Err c.in-Err-TooManyPaths.field-0-is) c.from_json.ensures.read in
    let same = ap (flat kind) shows ∙ flat_of_shown kind w c.kind-kind.ensures.accepted.lawful valid.fits valid.rooted in
    let many : most_places < size w = subst (λ b. most_places < size b) same read.1 in
    omega (arith, many, valid.few)
