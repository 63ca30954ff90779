use Rattle.std.proofs.Common.{◌∙◌, sym, ap, subst, map}
use Rattle.clap.specs.Simple.{is_simple, subcommand_of}
use Rattle.clap.specs.Faults.{fault_of, is_simple_and_free}
use Rattle.ssa_words.specs.Calls.{IsMatched, IsWholeMatch}
use Rattle.ssa_words.proofs.ReadUsage.{usage_by}
use Rattle.ssa_words.proofs.TableFacts.{table_is_free, table_is_simple, table_taken}
use Rattle.ssa_words.proofs.words.read_words.Goals as goal

pub call-requires : goal.call-requires
call-requires g c =
    let words = map g.S.AsStr.text c.args.words.now in
    let is = c.in_ok-program.ensures.0 in
    let none = sym (ap (λ a. fault_of a words) is) ∙ c.in-Ok.ensures.kinds (ap is_simple_and_free is ∙ table_is_free c.subresources.result) in
    let rows = (c.in-Ok.ensures.matches (ap is_simple is ∙ table_is_simple c.subresources.result)).1 ∙ ap (λ a. subcommand_of a words) is in
    subst IsWholeMatch (sym rows) (table_taken c.subresources.result c.subresources.ensures words none)

pub returns-in-Ok : goal.returns-in-Ok
returns-in-Ok g c =
    let words = map g.S.AsStr.text c.args.words.now in
    let is = c.in_ok-program.ensures.0 in
    let rows = (c.in-Ok.ensures.matches (ap is_simple is ∙ table_is_simple c.subresources.result)).1 ∙ ap (λ a. subcommand_of a words) is in (
      c.subresources.result,
      c.subresources.ensures,
      sym (ap (λ a. fault_of a words) is) ∙ c.in-Ok.ensures.kinds (ap is_simple_and_free is ∙ table_is_free c.subresources.result),
      subst (λ p. IsMatched p c.call.result) rows c.call.ensures,
    )

pub returns-in-Err : goal.returns-in-Err
returns-in-Err g c =
    let words = map g.S.AsStr.text c.args.words.now in
    let is = c.in_ok-program.ensures.0 in
    usage_by c.subresources.result c.subresources.ensures words c.in-Err.fault c.of.result (ap (λ a. fault_of a words) is) (c.in-Err.ensures.kinds (ap is_simple_and_free is ∙ table_is_free c.subresources.result)) c.of.ensures
