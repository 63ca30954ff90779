use Rattle.std.proofs.Common.{ap, ap₂, ◌∙◌}
use Rattle.ssa_model.specs.definitions.PathMap.{union}
use Rattle.ssa_path.specs.Meet.{meet}
use Rattle.ssa_merge.proofs.NotOwnable.{not_ownable-is}
use Rattle.ssa_merge.proofs.ownable.not_ownable.Goals as goal

pub returns : goal.returns
returns c =
    c.in_ok-all.ensures ∙ ap₂ union c.in_ok-lacking.ensures (c.in_ok-refused.ensures ∙ ap (meet c.args.set.now) c.in_ok-never.ensures)
    ∙ not_ownable-is c.args.body.now c.args.set.now
