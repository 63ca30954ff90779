use Rattle.std.proofs.Common.{◌≡◌, ap, ◌∙◌, length, arith}
use Rattle.std.proofs.lemmas.List.{length-replicate, append-nil}
use Rattle.ssa_merge.specs.TableChanges.{changed_entries}
use Rattle.ssa_merge.specs.declared.table_change.EntryChange.TheVariants.{Leaves}
use Rattle.ssa_model.proofs.Tables.{no_managers}
use Rattle.ssa_merge.proofs.TableChanges.{all-leave}
use Rattle.ssa_merge.proofs.seat.emptied.Goals as goal

pub returns : goal.returns
returns c = record {
  each = ap length c.loop.invariant ∙ length-replicate c.loop.counter Leaves ∙ (let last : c.loop.counter ≡ c.len-end.result = omega arith in last)
      ∙ c.len-end.ensures;
  leads = append-nil (changed_entries c.loop.entries.items c.args.managers.now) ∙ ap (λ cs. changed_entries cs c.args.managers.now) c.loop.invariant
      ∙ all-leave c.loop.counter c.args.managers.now;
  managers = no_managers;
  new = tt;
}
