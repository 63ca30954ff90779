use Rattle.std.proofs.Common.{rules, tests}
use Rattle.std.proofs.lemmas.Fn.{always_returns_same}
use Rattle.ssa_path.specs.TopPaths.{lent_path}
use Rattle.ssa_record.proofs.PathSearch.{compared, path-search}
use Rattle.ssa_record.proofs.by_path.search.Goals as goal

pub returns : goal.returns
returns g c =
    path-search (lent_path c.args.key.now) c.args.entries.now c.binary_search_by.result c.requires c.binary_search_by.ensures.bound
    (c.binary_search_by.ensures.position (compared (lent_path c.args.key.now)) (always_returns_same _ _ _ (λ a r f k. search (rules, tests))))
