use Rattle.std.proofs.Common.{sym, ◌∙◌}
use Rattle.ssa_lines.specs.declared.loading.FileLine.{FileLine}
use Rattle.ssa_lines.proofs.LoadingFacts.{spelled-as}
use Rattle.ssa_lines.proofs.loading.value_of.Goals as goal

pub returns-clause-ok : goal.returns-clause-ok
returns-clause-ok c =
    let line : FileLine = record { value = c.in-Ok.value; text = c.args.text } in
    spelled-as line c.deref.result.now c.deref-2.result.now c.deref-3.result.now c.in_ok-spelled.spelled.items c.deref.ensures.value c.deref-2.ensures.value
    c.deref-3.ensures.value c.in-Ok.ensures.answers.1 c.in_ok-spelled.ensures.text
    (sym c.is_same_bytes.ensures ∙ c.if-not-is_same_bytes.false)
