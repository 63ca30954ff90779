use Rattle.std.proofs.Common.{◌≡◌, ◌+◌, ◌≤◌, length, [], sym, ap, subst, ◌∙◌, true≢false, arith}
use Rattle.std.proofs.lemmas.Bool.Decides.{nat_tests}
use Rattle.ssa_model.specs.definitions.Kind.{faults}
use Rattle.ssa_model.specs.definitions.Limits.{most_places}
use Rattle.ssa_model.specs.definitions.Objects.{shown}
use Rattle.ssa_model.specs.definitions.Operations.{is_none}
use Rattle.ssa_model.specs.definitions.PathMap.{size}
use Rattle.ssa_json.specs.View.{view}
use Rattle.ssa_path.specs.View.{path_view}
use Rattle.ssa_schema.specs.Kinds.{kind_view}
use Rattle.ssa_typed.specs.Reads.{ReadsTree}
use Rattle.ssa_typed.specs.Rows.{rows}
use Rattle.ssa_turn_body.specs.At.{SayAt, ServeAt}
use Rattle.ssa_record.specs.LedValues.{IsGiven}
use Rattle.ssa_record.specs.Places.{maps_of}
use Rattle.ssa_record.proofs.StepsThere.{alike-trees, keyed, part-small, steps-room, steps-say, steps-taken, target-few, value-fits, value-given}
use Rattle.ssa_record.proofs.steps_there.steps_there.Goals as goal

pub returns-in_default : goal.returns-in_default
returns-in_default c =
    let m = maps_of c.args.told.now in
    let kind = c.args.schema.now.kind in
    let v = c.args.body.now in
    let p = path_view c.args.path.items in
    let s = c.args.spot.now in
    let k = kind_view s.kind.now in
    let r = c.requires in
    record {
      taken = tt;
      room = tt;
      whole = λ d w to own is.
          subst (λ o. IsGiven o (shown k w p)) c.in_default.is
          (value-given m kind v p s r.lawful r.valid r.spot r.inner d w to own is c.in_ok-value.field-0 c.in_ok-value.ensures.led);
    }

pub tree_at-requires : goal.tree_at-requires
tree_at-requires c =
    let r = c.requires in
    keyed (maps_of c.args.told.now) c.args.schema.now.kind c.args.body.now (path_view c.args.path.items) c.args.spot.now r.lawful r.valid r.spot r.inner

pub returns-in_default-2 : goal.returns-in_default-2
returns-in_default-2 c =
    let m = maps_of c.args.told.now in
    let kind = c.args.schema.now.kind in
    let v = c.args.body.now in
    let p = path_view c.args.path.items in
    let s = c.args.spot.now in
    let k = kind_view s.kind.now in
    let r = c.requires in
    let value = view c.in-Some.value in
    record {
      taken = tt;
      room = tt;
      whole = λ d w to own is.
          let shows : value ≡ shown k w p =
          subst (λ o. IsGiven o (shown k w p)) c.in-Some.is (value-given m kind v p s r.lawful r.valid r.spot r.inner d w to own is c.in_ok-value.field-0
          c.in_ok-value.ensures.led) in
          let none : faults k value [] ≡ [] = ap (λ x. faults k x []) shows ∙ value-fits m kind v p s r.lawful r.valid r.spot r.inner d w to own is in
          true≢false (sym (ap is_none none) ∙ subst (λ o. ReadsTree o k value) c.in_default-2.is c.in_ok-after.ensures);
    }

pub has_room-requires-clause-part : goal.has_room-requires-clause-part
has_room-requires-clause-part c =
    let r = c.requires in
    part-small (maps_of c.args.told.now) c.args.schema.now.kind c.args.body.now (path_view c.args.path.items) c.args.spot.now r.lawful r.valid r.spot
    r.inner

pub returns-then-not-has_room : goal.returns-then-not-has_room
returns-then-not-has_room c =
    let m = maps_of c.args.told.now in
    let kind = c.args.schema.now.kind in
    let v = c.args.body.now in
    let p = path_view c.args.path.items in
    let s = c.args.spot.now in
    let k = kind_view s.kind.now in
    let r = c.requires in
    let value = view c.in-Some.value in
    let n = c.in-Some-2.after in
    let read = subst (λ o. ReadsTree o k value) c.in-Some-2.is c.in_ok-after.ensures in
    record {
      taken = tt;
      room = tt;
      whole = λ d w to own is.
          let shows : value ≡ shown k w p =
          subst (λ o. IsGiven o (shown k w p)) c.in-Some.is (value-given m kind v p s r.lawful r.valid r.spot r.inner d w to own is c.in_ok-value.field-0
          c.in_ok-value.ensures.led) in
          let few = target-few m kind v p s r.lawful r.valid r.spot r.inner d w to own is value n shows read in
          let many = sym c.has_room.ensures ∙ c.if-not-has_room.true in
          grind (arith, nat_tests, few, many);
    }

pub steps_at-requires-clause-alike : goal.steps_at-requires-clause-alike
steps_at-requires-clause-alike c =
    let r = c.requires in
    let k = kind_view c.args.spot.now.kind.now in
    let value = view c.in-Some.value in
    let read = subst (λ o. ReadsTree o k value) c.in-Some-2.is c.in_ok-after.ensures in
    alike-trees (maps_of c.args.told.now) c.args.schema.now.kind c.args.body.now (path_view c.args.path.items) c.args.spot.now r.lawful r.valid r.spot
    r.inner
    value c.in-Some-2.after read

pub returns : goal.returns
returns c =
    let m = maps_of c.args.told.now in
    let kind = c.args.schema.now.kind in
    let v = c.args.body.now in
    let p = path_view c.args.path.items in
    let s = c.args.spot.now in
    let k = kind_view s.kind.now in
    let r = c.requires in
    let value = view c.in-Some.value in
    let n = c.in-Some-2.after in
    let t = c.in_ok-steps_at.field-0 in
    let read = subst (λ o. ReadsTree o k value) c.in-Some-2.is c.in_ok-after.ensures in
    let fine = sym c.has_room.ensures ∙ c.if-not-has_room.false in
    let few : size v + length (rows n) ≤ most_places + length (rows s.node.now) = grind (arith, nat_tests, fine) in
    let path = ap path_view c.in_ok-value.ensures.path in
    let say = subst (λ g. SayAt t g s.node.now n) path c.in_ok-steps_at.ensures.record in
    let serve = subst (λ g. ServeAt t g s.node.now n) path c.in_ok-steps_at.ensures.room in
    record {
      taken = steps-taken m kind v p s r.lawful r.valid r.spot r.inner value n read few t say serve;
      room = steps-room m kind v p s r.lawful r.valid r.spot r.inner value n read few t say serve;
      whole = λ d w to own is.
          let shows : value ≡ shown k w p =
          subst (λ o. IsGiven o (shown k w p)) c.in-Some.is (value-given m kind v p s r.lawful r.valid r.spot r.inner d w to own is c.in_ok-value.field-0
          c.in_ok-value.ensures.led) in
          steps-say m kind v p s r.lawful r.valid r.spot r.inner d w to own is value n shows read t say;
    }
