use Rattle.std.proofs.Common.{[], ap, sym, ◌∙◌}
use Rattle.ssa_path.specs.Combine.{is_concerned}
use Rattle.ssa_path.specs.Trie.{paths}
use Rattle.ssa_path.proofs.Levels.{one-level-root}
use Rattle.ssa_path.proofs.combine.Combination.is_concerned.Goals as goal

pub returns-in-Union : goal.returns-in-Union
returns-in-Union c = sym (one-level-root c.args.other.now) ∙ ap (λ how. is_concerned how (paths c.args.other.now) []) (sym c.in-Union.is)

pub returns-in-Minus : goal.returns-in-Minus
returns-in-Minus c = sym (one-level-root c.args.other.now) ∙ ap (λ how. is_concerned how (paths c.args.other.now) []) (sym c.in-Minus.is)

pub returns-in-Meet : goal.returns-in-Meet
returns-in-Meet c = sym (one-level-root c.args.other.now) ∙ ap (λ how. is_concerned how (paths c.args.other.now) []) (sym c.in-Meet.is)
