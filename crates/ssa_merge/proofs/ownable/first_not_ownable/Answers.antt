use Rattle.std.proofs.Common.{Some, ap, sym, ◌∙◌}
use Rattle.ssa_merge.specs.EntryReading.{first_of}
use Rattle.ssa_merge.proofs.NotOwnable.{first-listed, first-none, first-refused}
use Rattle.ssa_merge.proofs.ownable.first_not_ownable.Goals as goal

pub returns-then-is_empty : goal.returns-then-is_empty
returns-then-is_empty c =
    sym (first-none c.in_ok-refused.refused (sym c.is_empty.ensures ∙ c.if-is_empty.true))
    ∙ first-refused c.args.body.now c.args.set.now c.in_ok-refused.refused c.in_ok-refused.ensures

pub returns : goal.returns
returns c =
    ap Some c.in_ok-copy-in-len1-up.ensures ∙ first-listed c.as_slice.result.now c.first-item.result c.in-len1-up.len_at_least c.first-item.is
    ∙ ap first_of (c.as_slice.ensures.value ∙ c.in_ok-listed.ensures)
    ∙ first-refused c.args.body.now c.args.set.now c.in_ok-refused.refused c.in_ok-refused.ensures
