use Rattle.ssa_model.proofs.FactsBothWays.{facts_both_ways}
use Rattle.ssa_model.proofs.records.facts_both_ways.Goals as goal

pub returns : goal.returns
returns c = facts_both_ways
