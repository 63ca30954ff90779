use Rattle.std.proofs.Common.{ap, sym, ◌∙◌, option_map}
use Rattle.ssa_file.specs.Heads.{head_view}
use Rattle.ssa_bench.proofs.taking.head_of.Goals as goal

pub returns-in-Some-clause-taken : goal.returns-in-Some-clause-taken
returns-in-Some-clause-taken c = sym c.in_ok-head.ensures.is ∙ ap (option_map head_view) c.in-Some.is

pub returns-in-None-clause-taken : goal.returns-in-None-clause-taken
returns-in-None-clause-taken c = sym c.in_ok-head.ensures.is ∙ ap (option_map head_view) c.in-None.is
