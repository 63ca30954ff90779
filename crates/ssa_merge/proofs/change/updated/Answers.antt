-- What an Update to a body changes, where it has too many paths, is seated or is refused a seat.
use Rattle.std.proofs.Common.{◌≡◌, ◌<◌, ◌≤◌, ◌∙◌, [], refl, subst, true}
use Rattle.std.specs.Prelude.{Ok, Err}
use Rattle.ssa_model.specs.definitions.Limits.{most_places}
use Rattle.ssa_model.specs.definitions.Operations.{too_many_paths}
use Rattle.ssa_model.specs.definitions.PathMap.{minus, size, union}
use Rattle.ssa_model.specs.definitions.Body.{added, modified, removed}
use Rattle.ssa_model.specs.definitions.Table.{Table, owned_by, seat}
use Rattle.ssa_merge.specs.Managers.{key_view}
use Rattle.ssa_merge.specs.States.{state_view}
use Rattle.ssa_merge.specs.TableChanges.{IsSeated}
use Rattle.ssa_merge.specs.declared.change.Change.{Change}
use Rattle.ssa_merge.proofs.Applied.{decided-paths, few-places, many-places, seated, unseated}
use Rattle.ssa_merge.proofs.change.updated.Goals as goal

pub returns-then-size-gt-MOST_PLACES-clause-change : goal.returns-then-size-gt-MOST_PLACES-clause-change
returns-then-size-gt-MOST_PLACES-clause-change c =
    let state = state_view c.args.state.now in
    let u = key_view c.args.key.now in
    let object = c.args.object in
    let changed = modified state.body object in
    let gone = removed state.body object in
    let owned = union (minus (owned_by state.table u) gone) (union changed (added state.body object)) in
    let table = seat state.table u owned (union changed gone) changed c.args.at in
    let over : most_places < size object = many-places c.size.result (size object) c.size.ensures c.if-size-gt-MOST_PLACES.true in
    (too_many_paths, decided-paths true [] (size object) object table refl over, refl)

pub returns-in-Ok-clause-change : goal.returns-in-Ok-clause-change
returns-in-Ok-clause-change c =
    let state = state_view c.args.state.now in
    let u = key_view c.args.key.now in
    let object = c.args.object in
    let changed = modified state.body object in
    let gone = removed state.body object in
    let owned = union (minus (owned_by state.table u) gone) (union changed (added state.body object)) in
    let table = seat state.table u owned (union changed gone) changed c.args.at in
    let are = c.in_ok-comparison.ensures in
    let owned_is : c.in_ok-owned.owned ≡ owned = c.in_ok-owned.ensures
    ∙ (λ i. union (minus (owned_by state.table u) (are.removed_are i)) (union (are.modified_are i) (are.added_are i))) in
    let lost_is : c.made_or-lost.result.now ≡ union changed gone = c.made_or-lost.ensures ∙ c.in_ok-more.ensures
    ∙ (λ i. union (are.modified_are i) (are.removed_are i)) in
    let seats : ◌≡◌ {A = Table} (seat state.table u c.in_ok-owned.owned c.made_or-lost.result.now c.in_ok-comparison.comparison.modified c.args.at) table =
    λ i. seat state.table u (owned_is i) (lost_is i) (are.modified_are i) c.args.at in
    let change : Change = record { body = c.body_if_other.result; table = c.in-Ok.table; comparison = c.in_ok-comparison.comparison } in
    let is_seated : Table → Type 0 = IsSeated state.table (Ok c.in-Ok.table) in
    let few : size object ≤ most_places = few-places c.size.result (size object) c.size.ensures c.if-size-gt-MOST_PLACES.false in
    seated state true [] (size object) change object table refl few (c.body_if_other.ensures.body c.in_ok-comparison.comparison.removed)
    (subst is_seated seats c.in-Ok.ensures) are

pub returns-in-Err-clause-change : goal.returns-in-Err-clause-change
returns-in-Err-clause-change c =
    let state = state_view c.args.state.now in
    let u = key_view c.args.key.now in
    let object = c.args.object in
    let changed = modified state.body object in
    let gone = removed state.body object in
    let owned = union (minus (owned_by state.table u) gone) (union changed (added state.body object)) in
    let table = seat state.table u owned (union changed gone) changed c.args.at in
    let are = c.in_ok-comparison.ensures in
    let owned_is : c.in_ok-owned.owned ≡ owned = c.in_ok-owned.ensures
    ∙ (λ i. union (minus (owned_by state.table u) (are.removed_are i)) (union (are.modified_are i) (are.added_are i))) in
    let lost_is : c.made_or-lost.result.now ≡ union changed gone = c.made_or-lost.ensures ∙ c.in_ok-more.ensures
    ∙ (λ i. union (are.modified_are i) (are.removed_are i)) in
    let seats : ◌≡◌ {A = Table} (seat state.table u c.in_ok-owned.owned c.made_or-lost.result.now c.in_ok-comparison.comparison.modified c.args.at) table =
    λ i. seat state.table u (owned_is i) (lost_is i) (are.modified_are i) c.args.at in
    let is_seated : Table → Type 0 = IsSeated state.table (Err c.in-Err.refusal) in
    let few : size object ≤ most_places = few-places c.size.result (size object) c.size.ensures c.if-size-gt-MOST_PLACES.false in
    unseated state true [] (size object) object table c.in-Err.refusal refl few (subst is_seated seats c.in-Err.ensures)
