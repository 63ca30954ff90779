use Rattle.std.proofs.Common.{◌∙◌, ◌-◌, ◌^◌, min, ap, sym}
use Rattle.ssa_model.specs.definitions.PathMap.{size}
use Rattle.ssa_path.specs.Trie.{paths}
use Rattle.ssa_path.proofs.InOrder.{size-listed}
use Rattle.ssa_path.proofs.field_set.FieldSet.len.Goals as goal

pub returns : goal.returns
returns c =
    c.count_paths.ensures.count
    ∙ ap (λ n. min n (2 ^ 64 - 1)) (sym (size-listed (paths c.self.inside.root) c.count_paths.ensures.rise) ∙ ap size c.self.view_is)
