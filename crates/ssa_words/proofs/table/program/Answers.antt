use Rattle.std.specs.Prelude.{codes, ◌++◌}
use Rattle.ssa_words.specs.Table as spec
use Rattle.ssa_words.proofs.table.program.Goals as goal

pub returns : goal.returns
returns c =
    let with_show = c.with_word-with_show.ensures (spec.with_words (spec.writes c.args.subresources ++ spec.moves)) spec.show c.moves.ensures c.show.ensures in
    let with_owners = c.with_word-with_owners.ensures _ spec.owners with_show c.owners.ensures in
    let with_log = c.with_word-with_log.ensures _ (spec.of_bench (codes "log")) with_owners c.of_bench-log.ensures in
    c.with_word.ensures _ (spec.of_bench (codes "session")) with_log c.of_bench-session.ensures
