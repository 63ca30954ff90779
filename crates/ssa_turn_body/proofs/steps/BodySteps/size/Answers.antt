use Rattle.std.proofs.Common.{◌-◌, ◌^◌, min, sym, ap, ◌∙◌}
use Rattle.ssa_turn_body.specs.Sizes.{steps_size}
use Rattle.ssa_turn_body.proofs.Sizes.{size-told}
use Rattle.ssa_turn_body.proofs.steps.BodySteps.size.Goals as goal

pub returns : goal.returns
returns c =
    let same = ap steps_size c.deref.ensures.value ∙ sym (size-told c.args.self.now c.requires.1.once) in
    c.steps_size.ensures ∙ ap (λ n. min n (2 ^ 64 - 1)) same
