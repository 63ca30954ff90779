use Rattle.std.proofs.Common.{sym, ◌∙◌, subst}
use Rattle.std.specs.Prelude.{IfOk}
use Rattle.ssa_merge.specs.Managers.{entry_view, key_view, table_view}
use Rattle.ssa_turn_set.specs.Turn.{HasRoom}
use Rattle.ssa_turn_table.proofs.Changes.{owned-entry}
use Rattle.ssa_record.proofs.ToldSets.{owned-absent}
use Rattle.ssa_record.proofs.told_table.told_delta.Goals as goal

pub returns-in-Some-clause-room : goal.returns-in-Some-clause-room
returns-in-Some-clause-room c =
    let t = table_view c.args.entries.now in
    let k = key_view c.args.key.now in
    let owned = owned-entry t k (entry_view c.in-Some.entry.now) (sym c.in-Some.ensures) in
    subst (λ s. IfOk c.set_delta.result (λ d. HasRoom d s)) (sym owned) c.set_delta.ensures.room

pub returns-in-None-clause-room : goal.returns-in-None-clause-room
returns-in-None-clause-room c =
    let t = table_view c.args.entries.now in
    let k = key_view c.args.key.now in
    let owned = c.new.ensures ∙ sym (owned-absent t k (sym c.in-None.ensures)) in
    subst (λ s. IfOk c.set_delta-in-None-2.result (λ d. HasRoom d s)) owned c.set_delta-in-None-2.ensures.room
