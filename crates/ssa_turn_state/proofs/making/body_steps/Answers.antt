use Rattle.std.proofs.Common.{◌≡◌, ◌∙◌, ap, sym, subst}
use Rattle.std.specs.Prelude.{IfOk}
use Rattle.ssa_model.specs.definitions.Fitting.{IsBodyOf}
use Rattle.ssa_model.specs.definitions.Record.{body_record}
use Rattle.ssa_model.specs.laws.RecordWalks.{AreAlike as AreOfOneClass}
use Rattle.ssa_merge.specs.Plans.{body_after, CanStand}
use Rattle.ssa_turn_body.specs.Records.{body_told}
use Rattle.ssa_turn_state.proofs.OneKind.{after_of_one_class}
use Rattle.ssa_turn_state.proofs.making.body_steps.Goals as goal

pub whole_steps-requires : goal.whole_steps-requires
whole_steps-requires c =
    let fit = c.requires.fit in
    (fit.0, fit.1, subst (λ o. IsBodyOf fit.0 (body_after o c.args.gone.now c.args.from.now)) c.in-Whole.is fit.2)

pub steps_over-requires : goal.steps_over-requires
steps_over-requires c =
    let stands = subst (λ o. CanStand o c.args.gone.now c.args.from.now) c.in-Over.is c.requires.stands in
    record { alike = stands.0; gone = stands.1; order = stands.3 }

pub returns-in-Whole-clause-told : goal.returns-in-Whole-clause-told
returns-in-Whole-clause-told c =
    let v = c.args.from.now in
    let g = c.args.gone.now in
    subst (λ o. IfOk c.whole_steps.result (λ s. body_told s ≡ body_record v (body_after o g v))) (sym c.in-Whole.is) c.whole_steps.ensures.told

pub returns-in-Over-clause-told : goal.returns-in-Over-clause-told
returns-in-Over-clause-told c =
    let v = c.args.from.now in
    let g = c.args.gone.now in
    let class = subst (λ o. AreOfOneClass v (body_after o g v)) c.in-Over.is (after_of_one_class v c.args.to g c.requires.fit) in
    subst (λ o. IfOk c.steps_over.result (λ s. body_told s ≡ body_record v (body_after o g v))) (sym c.in-Over.is)
    (c.steps_over.ensures.record class)

pub returns-in-Over-clause-room : goal.returns-in-Over-clause-room
returns-in-Over-clause-room c =
    let v = c.args.from.now in
    let g = c.args.gone.now in
    c.steps_over.ensures.room (subst (λ o. AreOfOneClass v (body_after o g v)) c.in-Over.is (after_of_one_class v c.args.to g c.requires.fit))

pub returns-in-Same-clause-told : goal.returns-in-Same-clause-told
returns-in-Same-clause-told c =
    let v = c.args.from.now in
    c.none.ensures.told v ∙ ap (λ o. body_record v (body_after o c.args.gone.now v)) (sym c.in-Same.is)

pub returns-in-Same-clause-room : goal.returns-in-Same-clause-room
returns-in-Same-clause-room c = c.none.ensures.room c.args.from.now
