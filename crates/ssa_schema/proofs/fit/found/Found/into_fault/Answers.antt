use Rattle.std.proofs.Common.{sym, ap, ◌∙◌}
use Rattle.ssa_schema.specs.Kinds.{names_view}
use Rattle.ssa_schema.specs.Finds.{misfit_view}
use Rattle.ssa_schema.proofs.Finding.{names_reversed}
use Rattle.ssa_schema.proofs.fit.found.Found.into_fault.Goals as goal

pub returns-in-UnknownField : goal.returns-in-UnknownField
returns-in-UnknownField c = λ i. (misfit_view (sym c.in-UnknownField.is i), (ap names_view c.reverse.ensures.items ∙ names_reversed c.args.self.path.items) i)

pub returns-in-WrongType : goal.returns-in-WrongType
returns-in-WrongType c = λ i. (misfit_view (sym c.in-WrongType.is i), (ap names_view c.reverse.ensures.items ∙ names_reversed c.args.self.path.items) i)

pub returns-in-MissingKey : goal.returns-in-MissingKey
returns-in-MissingKey c = λ i. (misfit_view (sym c.in-MissingKey.is i), (ap names_view c.reverse.ensures.items ∙ names_reversed c.args.self.path.items) i)

pub returns-in-DuplicateItem : goal.returns-in-DuplicateItem
returns-in-DuplicateItem c = λ i. (misfit_view (sym c.in-DuplicateItem.is i), (ap names_view c.reverse.ensures.items ∙ names_reversed c.args.self.path.items) i)
