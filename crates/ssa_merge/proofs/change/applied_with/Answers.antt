-- What an Apply without a conflict changes, where it has too many paths, is seated or is refused a seat.
use Rattle.std.proofs.Common.{◌≡◌, ◌<◌, ◌≤◌, ◌-◌, ◌^◌, min, ◌∙◌, ap, sym, subst, refl}
use Rattle.std.specs.Prelude.{Result, Ok, Err, if◌then◌else◌, unwrap_or}
use Rattle.ssa_model.specs.definitions.Limits.{most_places}
use Rattle.ssa_model.specs.definitions.PathMap.{size, union}
use Rattle.ssa_model.specs.definitions.Body.{points, modified}
use Rattle.ssa_model.specs.definitions.Table.{Table, owned_by, seat}
use Rattle.ssa_model.specs.definitions.Operations as model
use Rattle.ssa_model.specs.definitions.Operations.{State, clashes, owned_outside, pruned, too_many_paths}
use Rattle.ssa_merge.specs.Managers.{key_view}
use Rattle.ssa_merge.specs.States.{state_view}
use Rattle.ssa_merge.specs.TableChanges.{IsSeated}
use Rattle.ssa_merge.specs.Plans.{IsChanged}
use Rattle.ssa_merge.specs.declared.change.Change.{Change}
use Rattle.ssa_merge.proofs.Applied.{apply-decided, decided-paths, no-conflict, few-places, many-places, seated, unseated}
use Rattle.ssa_merge.proofs.Untaken.{seat-unforced}
use Rattle.ssa_merge.proofs.change.applied_with.Goals as goal

pub returns-then-places-gt-MOST_PLACES-clause-change : goal.returns-then-places-gt-MOST_PLACES-clause-change
returns-then-places-gt-MOST_PLACES-clause-change c = λ config merging compared free own.
    let state = state_view c.args.state.now in
    let a = key_view c.args.key.now in
    let body = pruned state a config in
    let changed = modified state.body body in
    let clash = clashes a changed state.table in
    let table = seat state.table a (union (points config) (owned_outside state.table a)) changed changed c.args.at in
    let quiet = no-conflict c.args.force clash free in
    let over : most_places < size body =
    many-places c.args.made.places (size body) (c.requires.places ∙ ap (λ b. min (size b) (2 ^ 64 - 1)) merging) c.if-places-gt-MOST_PLACES.true in (
      too_many_paths,
      apply-decided state a config c.args.force c.args.at body clash (size body) table refl refl refl refl
          ∙ decided-paths c.args.force clash (size body) body table quiet over,
      refl,
    )

pub returns-in-Ok-clause-change : goal.returns-in-Ok-clause-change
returns-in-Ok-clause-change c = λ config merging compared free own.
    let state = state_view c.args.state.now in
    let a = key_view c.args.key.now in
    let body = pruned state a config in
    let changed = modified state.body body in
    let clash = clashes a changed state.table in
    let table = seat state.table a (union (points config) (owned_outside state.table a)) changed changed c.args.at in
    let quiet = no-conflict c.args.force clash free in
    let few : size body ≤ most_places =
    few-places c.args.made.places (size body) (c.requires.places ∙ ap (λ b. min (size b) (2 ^ 64 - 1)) merging) c.if-places-gt-MOST_PLACES.false in
    let lost = c.taken-lost.ensures ∙ (λ i. if c.args.force then compared.modified_are i else c.new-nothing.ensures i) in
    let seats : ◌≡◌ {A = Table} (seat state.table a (unwrap_or c.args.owned (owned_by state.table a)) c.taken-lost.result.now c.args.made.comparison.modified c.args.at)
    table
    = (λ i. seat state.table a (own i) (lost i) (compared.modified_are i) c.args.at)
    ∙ seat-unforced state.table a (union (points config) (owned_outside state.table a)) changed c.args.at c.args.force quiet in
    let given = apply-decided state a config c.args.force c.args.at body clash (size body) table refl refl refl refl in
    let change : Change = record { body = c.args.made.body; table = c.in-Ok.table; comparison = c.args.made.comparison } in
    let is_seated : Table → Type 0 = IsSeated state.table (Ok c.in-Ok.table) in
    let is_changed : Result State model.Refusal → Type 0 = IsChanged state (Ok change) in
    subst is_changed (sym given)
    (seated state c.args.force clash (size body) change body table quiet few merging (subst is_seated seats c.in-Ok.ensures) compared)

pub returns-in-Err-clause-change : goal.returns-in-Err-clause-change
returns-in-Err-clause-change c = λ config merging compared free own.
    let state = state_view c.args.state.now in
    let a = key_view c.args.key.now in
    let body = pruned state a config in
    let changed = modified state.body body in
    let clash = clashes a changed state.table in
    let table = seat state.table a (union (points config) (owned_outside state.table a)) changed changed c.args.at in
    let quiet = no-conflict c.args.force clash free in
    let few : size body ≤ most_places =
    few-places c.args.made.places (size body) (c.requires.places ∙ ap (λ b. min (size b) (2 ^ 64 - 1)) merging) c.if-places-gt-MOST_PLACES.false in
    let lost = c.taken-lost.ensures ∙ (λ i. if c.args.force then compared.modified_are i else c.new-nothing.ensures i) in
    let seats : ◌≡◌ {A = Table} (seat state.table a (unwrap_or c.args.owned (owned_by state.table a)) c.taken-lost.result.now c.args.made.comparison.modified c.args.at)
    table
    = (λ i. seat state.table a (own i) (lost i) (compared.modified_are i) c.args.at)
    ∙ seat-unforced state.table a (union (points config) (owned_outside state.table a)) changed c.args.at c.args.force quiet in
    let given = apply-decided state a config c.args.force c.args.at body clash (size body) table refl refl refl refl in
    let is_seated : Table → Type 0 = IsSeated state.table (Err c.in-Err.refusal) in
    let is_changed : Result State model.Refusal → Type 0 = IsChanged state (Err c.in-Err.refusal) in
    subst is_changed (sym given) (unseated state c.args.force clash (size body) body table c.in-Err.refusal quiet few (subst is_seated seats c.in-Err.ensures))
