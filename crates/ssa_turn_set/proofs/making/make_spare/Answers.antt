use Rattle.std.proofs.Common.{ap, ◌∙◌}
use Rattle.ssa_model.specs.definitions.Path.{same_element}
use Rattle.ssa_model.proofs.Tables.{element-itself}
use Rattle.ssa_path.specs.View.{element_view}
use Rattle.ssa_turn_set.proofs.making.make_spare.Goals as goal

pub returns : goal.returns
returns c =
    let e = element_view c.args.element.now in
    ap (same_element e) c.in_ok-kept.ensures ∙ element-itself e
