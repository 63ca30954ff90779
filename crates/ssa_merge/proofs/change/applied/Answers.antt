-- An Apply conflicts as its configuration tells, or it is free to be carried out.
use Rattle.std.proofs.Common.{ap, ◌∙◌, sym, refl}
use Rattle.ssa_model.specs.definitions.Body.{points, modified}
use Rattle.ssa_model.specs.definitions.PathMap.{size, union}
use Rattle.ssa_model.specs.definitions.Table.{seat}
use Rattle.ssa_model.specs.definitions.Operations.{clashes, conflict, owned_outside, pruned}
use Rattle.ssa_merge.specs.Managers.{key_view, clashes_view, conflict_view}
use Rattle.ssa_merge.specs.States.{state_view}
use Rattle.ssa_merge.specs.Plans.{conflict_of}
use Rattle.ssa_merge.proofs.Applied.{apply-decided, decided-conflict, none-found, some-conflict}
use Rattle.ssa_merge.proofs.ToldApart.{modified-told}
use Rattle.ssa_merge.proofs.change.applied.Goals as goal

pub returns-in-Some-clause-change : goal.returns-in-Some-clause-change
returns-in-Some-clause-change c =
    let state = state_view c.args.state.now in
    let a = key_view c.args.key.now in
    let config = c.args.config in
    let body = pruned state a config in
    let changed = modified state.body body in
    let clash = clashes a changed state.table in
    let table = seat state.table a (union (points config) (owned_outside state.table a)) changed changed c.args.at in
    let told = c.in_ok-told.ensures.modified_are ∙ sym (modified-told state a config c.points_tell_places.ensures) in
    let forbids = some-conflict c.args.force clash (clashes_view c.in-Some.found.items) (ap conflict_view (sym c.in-Some.is) ∙ c.in_ok-found.ensures
    ∙ (λ i. conflict_of c.args.force (clashes a (told i) state.table))) in (
      conflict clash,
      apply-decided state a config c.args.force c.args.at body clash (size body) table refl refl refl refl
          ∙ decided-conflict c.args.force clash (size body) body table forbids.1,
      ap conflict (sym forbids.0),
    )

pub applied_freely-requires-clause-quiet : goal.applied_freely-requires-clause-quiet
applied_freely-requires-clause-quiet c =
    let state = state_view c.args.state.now in
    let a = key_view c.args.key.now in
    let told = c.in_ok-told.ensures.modified_are ∙ sym (modified-told state a c.args.config c.points_tell_places.ensures) in
    (λ i. conflict_of c.args.force (clashes a (sym told i) state.table))
    ∙ sym c.in_ok-found.ensures ∙ none-found c.in_ok-found.field-0 c.in_default.not-Some
