use Rattle.std.proofs.Common.{◌∙◌, sym, ap, subst, option_map}
use Rattle.clap.specs.Words.{found_of, rows_of}
use Rattle.ssa_words.specs.Calls.{IsWholeMatch}
use Rattle.ssa_words.proofs.ReadLemmas.{met_is}
use Rattle.ssa_words.proofs.words.call.Goals as goal

pub call_of-requires : goal.call_of-requires
call_of-requires c =
    let is = met_is _ _ _ (sym (ap (option_map (λ p. p.0.now)) c.unwrap.ensures) ∙ c.subcommand.ensures.name)
    (sym (ap (option_map (λ p. rows_of (found_of p.1.now))) c.unwrap.ensures) ∙ c.subcommand.ensures.rows) in
    subst IsWholeMatch is c.requires
