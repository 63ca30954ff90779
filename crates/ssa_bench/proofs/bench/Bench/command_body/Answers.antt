use Rattle.std.proofs.Common.{[], map, string_bytes, refl, ap, sym, subst, ◌∙◌}
use Rattle.std.specs.Prelude.{Result}
use Rattle.ssa_model.specs.definitions.Body as bodies
use Rattle.ssa_model.specs.definitions.Kind.{wrong_type, fault_at}
use Rattle.ssa_model.specs.definitions.Objects.{identity_of, same_identity}
use Rattle.ssa_model.specs.definitions.Answers as model
use Rattle.ssa_model.specs.definitions.Answers.{body_or_fault, body_fault, identity_fault}
use Rattle.ssa_json.specs.View.{view}
use Rattle.ssa_answers.specs.Faults.{IsGiven}
use Rattle.ssa_bench.proofs.Taken.{command_body-no_object, command_body-other, command_body-taken, regrouped}
use Rattle.ssa_bench.proofs.bench.Bench.command_body.Goals as goal

pub returns-then-not-is_object-clause-given : goal.returns-then-not-is_object-clause-given
returns-then-not-is_object-clause-given c = (
  body_fault wrong_type [],
  command_body-no_object c.args.self.now (view c.args.object) (sym c.is_object.ensures ∙ c.if-not-is_object.true),
  (fault_at wrong_type [], refl, (λ i. (wrong_type, map string_bytes (c.new.ensures.items i)))),
)

pub returns-then-not-is_same_as-clause-given : goal.returns-then-not-is_same_as-clause-given
returns-then-not-is_same_as-clause-given c =
    let v = view c.args.object in
    let other = ap (λ b. same_identity (identity_of v) b.identity) (sym c.self.view_is) ∙ sym c.is_same_as.ensures.same ∙ c.if-not-is_same_as.true in (
      identity_fault,
      command_body-other c.args.self.now v (sym c.is_object.ensures ∙ c.if-not-is_object.false) other,
      refl,
    )

pub returns-clause-given : goal.returns-clause-given
returns-clause-given c =
    let v = view c.args.object in
    let given : Result bodies.Body model.Fault → Type 0 = IsGiven c.body_or_fault.result in
    let same = ap (λ b. same_identity (identity_of v) b.identity) (sym c.self.view_is) ∙ sym c.is_same_as.ensures.same ∙ c.if-not-is_same_as.false in
    subst given
    ((λ i. body_or_fault (c.self.view_is i).schema.kind (c.body_value.ensures i))
    ∙ sym (command_body-taken c.args.self.now v (sym c.is_object.ensures
    ∙ c.if-not-is_object.false) (regrouped _ _ _ (c.is_same_as.ensures.whole c.if-not-is_same_as.false) same)
    (sym c.gives_managed_fields.ensures ∙ c.if-gives_managed_fields.false)))
    c.body_or_fault.ensures.given
