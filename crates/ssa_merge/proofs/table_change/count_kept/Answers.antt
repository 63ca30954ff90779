use Rattle.std.proofs.Common.{length, filter, not, ap, ◌∙◌, arith}
use Rattle.std.proofs.lemmas.List.{take_all}
use Rattle.ssa_merge.specs.TableChanges.{leaves}
use Rattle.ssa_merge.proofs.TableChanges.{kept-counted}
use Rattle.ssa_merge.proofs.table_change.count_kept.Goals as goal

pub returns-clause-count : goal.returns-clause-count
returns-clause-count c = λ t same.
    let changes = c.args.changes.now in
    let last = c.loop-change-test.false in
    c.loop-change.invariant.0 ∙ ap (λ cs. length (filter (λ x. not (leaves x)) cs)) (take_all c.loop-change.change-index changes (omega arith))
    ∙ kept-counted changes t same
