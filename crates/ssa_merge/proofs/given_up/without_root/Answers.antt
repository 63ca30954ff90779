use Rattle.std.proofs.Common.{ap, ◌∙◌, not}
use Rattle.ssa_model.specs.definitions.Path.{same_path}
use Rattle.ssa_model.specs.definitions.PathMap.{paths, set_of}
use Rattle.ssa_path.specs.View.{path_view}
use Rattle.ssa_merge.proofs.GivenUp.{no-root}
use Rattle.ssa_merge.proofs.given_up.without_root.Goals as goal

pub returns : goal.returns
returns c =
    c.remove-2.ensures.set
    ∙ ap (λ root. set_of (paths c.args.set) (λ p. not (same_path p root))) (c.new-2.ensures ∙ ap path_view c.new.ensures.items)
    ∙ no-root c.args.set
