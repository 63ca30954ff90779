use Rattle.std.proofs.Common.{◌-◌, ◌^◌, min, ap, sym, ◌∙◌}
use Rattle.ssa_model.specs.definitions.PathMap.{size}
use Rattle.ssa_typed.proofs.Sizes.{size-body}
use Rattle.ssa_typed.proofs.body.Body.size.Goals as goal

pub returns : goal.returns
returns c = c.size.ensures ∙ ap (λ n. min n (2 ^ 64 - 1)) (sym (size-body c.self.inside.root c.self.invariant.tree) ∙ ap size c.self.view_is)
