use Rattle.ssa_words.specs.Table as spec
use Rattle.ssa_words.proofs.table.writes.Goals as goal

pub returns : goal.returns
returns c =
    let with_init = c.with_word-with_init.ensures spec.bare spec.init c.bare.ensures c.init.ensures in
    let with_apply = c.with_word-with_apply.ensures _ (spec.apply c.args.subresources) with_init c.apply.ensures in
    c.with_word.ensures _ (spec.update c.args.subresources) with_apply c.update.ensures
