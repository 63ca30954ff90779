use Rattle.std.proofs.Common.{◌≡◌, ℕ, ◌<◌, ◌≤◌, ◌-◌, ◌^◌, min, [], ◌&&◌, None, ap, subst, ◌∙◌, arith}
use Rattle.std.proofs.Math.Nat.{min-eq_left, min-eq_right}
use Rattle.std.specs.Cmp.{first_so, second_so}
use Rattle.ssa_model.specs.definitions.Limits.{most_places}
use Rattle.ssa_model.specs.definitions.PathMap.{size}
use Rattle.ssa_model.specs.definitions.Body.{flat}
use Rattle.ssa_model.specs.definitions.Kind.{faults}
use Rattle.ssa_model.specs.definitions.Lawful.{is_root_kind, is_ordered, has_metadata}
use Rattle.ssa_json.specs.View.{view}
use Rattle.ssa_schema.specs.Finds.{Finds}
use Rattle.ssa_schema.specs.Kinds.{kind_view}
use Rattle.ssa_typed.specs.Reads.{IsBodyRead}
use Rattle.ssa_typed.specs.Tested.{IsTested}
use Rattle.ssa_typed.proofs.Fitting.{no-first}
use Rattle.ssa_typed.proofs.body.Body.from_json.Goals as goal

pub tested_body-requires-clause-root : goal.tested_body-requires-clause-root
tested_body-requires-clause-root c =
    let kind = c.args.schema.now.kind in
    ap is_root_kind c.kind.ensures.same ∙ first_so (is_root_kind kind) (is_ordered kind && has_metadata kind) c.kind.ensures.accepted.lawful

pub tested_body-requires-clause-metadata : goal.tested_body-requires-clause-metadata
tested_body-requires-clause-metadata c =
    let kind = c.args.schema.now.kind in
    ap has_metadata c.kind.ensures.same ∙ second_so (is_ordered kind) (has_metadata kind)
    (second_so (is_root_kind kind) (is_ordered kind && has_metadata kind) c.kind.ensures.accepted.lawful)

few-places : (n m : ℕ) → n ≡ min m (2 ^ 64 - 1) → n ≤ most_places → m ≤ most_places
few-places n m is h = grind (arith, min-eq_left, min-eq_right)

many-places : (n m : ℕ) → n ≡ min m (2 ^ 64 - 1) → most_places < n → most_places < m
many-places n m is h = grind (arith, min-eq_left, min-eq_right)

pub returns-then-size-gt-MOST_PLACES-clause-read : goal.returns-then-size-gt-MOST_PLACES-clause-read
returns-then-size-gt-MOST_PLACES-clause-read c =
    let v = view c.args.value in
    let kind = c.args.schema.now.kind in
    let k = kind_view c.kind.result.now in
    let tested = subst (IsTested (faults k v) (IsBodyRead k v)) c.in-Fits.is c.in_ok-body.ensures in (
      no-first (faults kind v []) (subst (λ j. Finds None (faults j v)) c.kind.ensures.same tested.0 []),
      subst (λ b. most_places < size b) (tested.1.exact ∙ ap (λ j. flat j v) c.kind.ensures.same)
          (many-places c.size.result (size c.in-Fits.body) c.size.ensures c.if-size-gt-MOST_PLACES.true),
    )

pub returns-clause-read : goal.returns-clause-read
returns-clause-read c =
    let v = view c.args.value in
    let kind = c.args.schema.now.kind in
    let k = kind_view c.kind.result.now in
    let tested = subst (IsTested (faults k v) (IsBodyRead k v)) c.in-Fits.is c.in_ok-body.ensures in (
      no-first (faults kind v []) (subst (λ j. Finds None (faults j v)) c.kind.ensures.same tested.0 []),
      (
        tested.1.exact ∙ ap (λ j. flat j v) c.kind.ensures.same,
        few-places c.size.result (size c.in-Fits.body) c.size.ensures c.if-size-gt-MOST_PLACES.false,
      ),
    )
