use Rattle.std.specs.Prelude.{codes}
use Rattle.ssa_words.specs.Table as spec
use Rattle.ssa_words.proofs.table.moves.Goals as goal

pub returns : goal.returns
returns c =
    let with_strip = c.with_word-with_strip.ensures (spec.with_words (spec.writes c.args.subresources)) (spec.of_bench (codes "strip")) c.writes.ensures c.of_bench-strip.ensures in
    let with_undo = c.with_word-with_undo.ensures _ (spec.of_bench (codes "undo")) with_strip c.of_bench-undo.ensures in
    c.with_word.ensures _ (spec.of_bench (codes "redo")) with_undo c.of_bench-redo.ensures
