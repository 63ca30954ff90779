use Rattle.std.proofs.Common.{rules, tests}
use Rattle.std.proofs.lemmas.Fn.{always_returns_same}
use Rattle.ssa_path.specs.View.{element_view}
use Rattle.ssa_path.proofs.Searching.{compared, search-result}
use Rattle.ssa_path.proofs.children.halve.Goals as goal

pub returns : goal.returns
returns g c =
    search-result (element_view c.args.element.now) c.args.children.now c.binary_search_by.result c.requires c.binary_search_by.ensures.bound
    (c.binary_search_by.ensures.position (compared (element_view c.args.element.now)) (always_returns_same _ _ _ (λ a r f k. search (rules, tests))))
