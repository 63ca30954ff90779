use Rattle.std.proofs.Common.{◌≡◌, ◌∙◌, rules, false, true, None, Some}
use Rattle.clap.specs.Matches.{found_of}
use Rattle.ssa_words.specs.Calls.{by_words}
use Rattle.ssa_words.proofs.ReadLemmas.{given_is}
use Rattle.ssa_words.proofs.words.is_given.Goals as goal

pub returns-in-Some-CommandLine : goal.returns-in-Some-CommandLine
returns-in-Some-CommandLine c =
    let at : true ≡ by_words (Some c.in-Some-CommandLine.field-0) = search rules in
    at ∙ given_is (found_of c.args.found.now) c.args.name.now _ c.in-Some-CommandLine.ensures

pub returns-in-Some-DefaultValue : goal.returns-in-Some-DefaultValue
returns-in-Some-DefaultValue c =
    let at : false ≡ by_words (Some c.in-Some-DefaultValue.field-0) = search rules in
    at ∙ given_is (found_of c.args.found.now) c.args.name.now _ c.in-Some-DefaultValue.ensures

pub returns-in-None : goal.returns-in-None
returns-in-None c = given_is (found_of c.args.found.now) c.args.name.now None c.in-None.ensures
