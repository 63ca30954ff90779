use Rattle.std.proofs.Common.{◌≡◌, [], sym, ap, subst, ◌∙◌}
use Rattle.std.specs.Prelude.{IfSome}
use Rattle.ssa_model.specs.definitions.Objects.{shown}
use Rattle.ssa_model.specs.definitions.Record.{body_record}
use Rattle.ssa_model.specs.definitions.Valid.{IsValidBody}
use Rattle.ssa_model.proofs.BodyLeads.{bodies_are_trees}
use Rattle.ssa_json.specs.View.{view}
use Rattle.ssa_typed.proofs.OneSort.{bodies_alike}
use Rattle.ssa_record.specs.LedBodies.{IsThis}
use Rattle.ssa_record.specs.LedValues.{IsGiven}
use Rattle.ssa_record.proofs.LedBodies.{lawful-ordered}
use Rattle.ssa_record.proofs.told_steps.steps_of_whole.Goals as goal

pub returns-in_default : goal.returns-in_default
returns-in_default c =
    let kind = c.args.schema.now.kind in
    record {
      taken = tt;
      room = tt;
      whole = λ d w takes valid is.
          subst (λ o. IsGiven o (shown kind w [])) c.in_default.is
          (c.in_ok-value.ensures kind d w (lawful-ordered kind c.kind-kind.ensures.accepted.lawful) takes is);
    }

pub steps_between-requires : goal.steps_between-requires
steps_between-requires c =
    let kind = c.args.schema.now.kind in
    let valid = subst (λ o. IfSome o (λ b. IsValidBody kind b)) c.in-Some-2.is c.in_ok-after.ensures.valid in
    record { alike = bodies_alike kind c.args.body.now c.in-Some-2.after c.requires.valid.fits valid.fits }

pub returns-in_ok-steps_between-in-Some-2 : goal.returns-in_ok-steps_between-in-Some-2
returns-in_ok-steps_between-in-Some-2 c =
    let kind = c.args.schema.now.kind in
    let valid = subst (λ o. IfSome o (λ b. IsValidBody kind b)) c.in-Some-2.is c.in_ok-after.ensures.valid in
    let alike = (bodies_are_trees kind c.args.body.now c.in-Some-2.after c.requires.valid.fits valid.fits).2 in
    record {
      taken = (c.in-Some-2.after, record { from = c.requires.valid.fits; to = valid.fits; is = c.in_ok-steps_between-in-Some-2.ensures.record alike }, valid);
      room = c.in_ok-steps_between-in-Some-2.ensures.room alike;
      whole = λ d w takes own is.
          let shows : view c.in-Some.value ≡ shown kind w [] =
          subst (λ o. IsGiven o (shown kind w [])) c.in-Some.is
          (c.in_ok-value.ensures kind d w (lawful-ordered kind c.kind-kind.ensures.accepted.lawful) takes is) in
          let same : c.in-Some-2.after ≡ w = subst (λ o. IsThis o w) c.in-Some-2.is (c.in_ok-after.ensures.read w own shows) in
          c.in_ok-steps_between-in-Some-2.ensures.record alike ∙ ap (body_record c.args.body.now) same ∙ sym takes.is;
    }

pub returns-in-None : goal.returns-in-None
returns-in-None c =
    let kind = c.args.schema.now.kind in
    record {
      taken = tt;
      room = tt;
      whole = λ d w takes own is.
          let shows : view c.in-Some.value ≡ shown kind w [] =
          subst (λ o. IsGiven o (shown kind w [])) c.in-Some.is
          (c.in_ok-value.ensures kind d w (lawful-ordered kind c.kind-kind.ensures.accepted.lawful) takes is) in
          subst (λ o. IsThis o w) c.in-None.is (c.in_ok-after.ensures.read w own shows);
    }
