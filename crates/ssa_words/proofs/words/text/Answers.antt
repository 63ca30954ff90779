use Rattle.std.proofs.Common.{◌∙◌, sym, ap, option_map}
use Rattle.std.specs.Borrow.{Bor}
use Rattle.clap.specs.Matches.{found_of}
use Rattle.clap.specs.Walk.{Text}
use Rattle.ssa_words.proofs.ReadLemmas.{text_is, text_there}
use Rattle.ssa_words.proofs.words.text.Goals as goal

pub unwrap-requires : goal.unwrap-requires
unwrap-requires c = text_there c.get_str.result (found_of c.args.found.now) c.args.id.now c.get_str.ensures c.requires

pub returns : goal.returns
returns c =
    sym (text_is c.get_str.result (found_of c.args.found.now) c.args.id.now c.get_str.ensures) ∙ ap (option_map (λ (s : Bor Text). s.now)) c.unwrap.ensures
