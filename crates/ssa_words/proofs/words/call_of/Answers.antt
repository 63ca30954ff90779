use Rattle.ssa_words.proofs.ReadLemmas.{no_word}
use Rattle.ssa_words.proofs.words.call_of.Goals as goal

pub unreachable-requires : goal.unreachable-requires
unreachable-requires c =
    let d = c.in_default in
    no_word c.args.name.now _
    (d.not-init, (d.not-apply, (d.not-update, (d.not-strip, (d.not-undo, (d.not-redo, (d.not-show, (d.not-owners, (d.not-log, (d.not-session, tt))))))))))
    c.requires
