use Rattle.std.proofs.Common.{sym, subst, ap, ◌∙◌, ◌+◌, ◌++◌, ◌∷◌, [], take, arith}
use Rattle.std.proofs.lemmas.List.{take_all, take_more}
use Rattle.std.proofs.lemmas.List.Elements.{AllZip-push}
use Rattle.std.specs.List.{AllZip}
use Rattle.ssa_turn_body.specs.Copies.{StepIsCopied}
use Rattle.ssa_turn_body.proofs.CopiedSteps.{body-copied, room-copied}
use Rattle.ssa_turn_body.proofs.steps.BodySteps.copy.Goals as goal

pub loop-step-preserved : goal.loop-step-preserved
loop-step-preserved c =
    let ss = c.deref-step-items.result.now in
    let i = c.loop-step.step-index in
    let s = c.step-item.result in
    let more = take_more ss i s (omega arith) ∙ ap (λ x. take i ss ++ x ∷ []) (sym c.step-item.is) in
    subst (AllZip StepIsCopied (take (i + 1) ss)) (sym c.in_ok-push.ensures.items)
    (subst (λ l. AllZip StepIsCopied l (c.loop-step.steps.items ++ c.in_ok-copied.copied ∷ [])) (sym more)
    (AllZip-push StepIsCopied (take i ss) c.loop-step.steps.items s c.in_ok-copied.copied c.loop-step.invariant c.in_ok-copied.ensures))

pub returns-clause-told : goal.returns-clause-told
returns-clause-told c =
    let all = take_all c.loop-step.step-index c.deref-step-items.result.now c.loop-step-test.false ∙ c.deref-step-items.ensures.value in
    body-copied c.args.self.now (record { steps = c.loop-step.steps })
    (subst (λ l. AllZip StepIsCopied l c.loop-step.steps.items) all c.loop-step.invariant)

pub returns-clause-room : goal.returns-clause-room
returns-clause-room c =
    let all = take_all c.loop-step.step-index c.deref-step-items.result.now c.loop-step-test.false ∙ c.deref-step-items.ensures.value in
    room-copied c.args.self.now (record { steps = c.loop-step.steps })
    (subst (λ l. AllZip StepIsCopied l c.loop-step.steps.items) all c.loop-step.invariant)
