use Rattle.std.proofs.Common.{sym, ◌∙◌}
use Rattle.ssa_model.proofs.Fitting.{same_element-true}
use Rattle.ssa_path.specs.View.{element_view}
use Rattle.ssa_typed.proofs.same_ends.is_same_child.Goals as goal

pub returns-then-is_same-clause-element : goal.returns-then-is_same-clause-element
returns-then-is_same-clause-element c _ =
    same_element-true (element_view c.args.own.now.0) (element_view c.args.other.now.0) (sym c.is_same.ensures ∙ c.if-is_same.true)
