use Rattle.std.proofs.Common.{subst, sym}
use Rattle.clap.specs.Words.{found_of, rows_of}
use Rattle.ssa_words.specs.Calls.{IsThrough}
use Rattle.ssa_words.proofs.ReadLemmas.{through}
use Rattle.ssa_words.proofs.words.is_through_status.Goals as goal

pub returns : goal.returns
returns c =
    subst (IsThrough (rows_of (found_of c.args.found.now))) (sym c.is_some.ensures)
    (through c.get_str.result (found_of c.args.found.now) c.get_str.ensures c.requires)
