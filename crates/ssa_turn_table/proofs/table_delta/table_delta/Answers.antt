use Rattle.std.proofs.Common.{◌≡◌, length, map, ap, ◌∙◌, arith}
use Rattle.ssa_model.specs.definitions.Record.{changes, gone_from, table_record}
use Rattle.ssa_merge.specs.Managers.{table_view}
use Rattle.ssa_merge.specs.TableChanges.{changed_entries, lone}
use Rattle.ssa_turn_table.specs.declared.delta.TableDelta.{TableDelta}
use Rattle.ssa_turn_table.specs.Turning.{table_steps}
use Rattle.ssa_turn_table.proofs.LedTables.{led-record}
use Rattle.ssa_turn_table.proofs.TurnedTables.{few_led}
use Rattle.ssa_turn_table.proofs.table_delta.table_delta.Goals as goal

pub returns-clause-record : goal.returns-clause-record
returns-clause-record c = λ u h.
    let t = table_view c.args.entries.now in
    let fs = c.args.change.entries.items in
    let o = c.args.change.newcomer in
    let d : TableDelta = record { changed = c.in_ok-changed.changed; gone = c.in_ok-gone.gone; here = c.in_ok-here.here; room = c.in_ok-room.room } in
    let here = c.in_ok-here.ensures.here t (ap length c.deref-2.ensures.value ∙ h.each) in
    led-record t fs o u h.new h.leads (table_steps d)
    (c.in_ok-changed.ensures.changes ∙ ap (λ xs. changes t (changed_entries xs t)) c.deref-3.ensures.value)
    (c.in_ok-gone.ensures ∙ ap (λ xs. gone_from t (changed_entries xs t)) c.deref.ensures.value)
    (here ∙ ap (λ xs. map (λ e. (length (changed_entries xs t), e)) (lone o)) c.deref-2.ensures.value)

pub returns-clause-room : goal.returns-clause-room
returns-clause-room c =
    let t = table_view c.args.entries.now in
    let u = c.requires.leads.0 in
    let h = c.requires.leads.1 in
    let d : TableDelta = record { changed = c.in_ok-changed.changed; gone = c.in_ok-gone.gone; here = c.in_ok-here.here; room = c.in_ok-room.room } in
    let is : table_steps d ≡ table_record t u = returns-clause-record c u h in
    record {
      few = few_led (table_steps d) t u (record { from = c.requires.distinct; to = h.managers.distinct; order = c.requires.leads.2; is = is }) h.managers.few;
      sets = c.in_ok-changed.ensures.room;
      keys = c.in_ok-here.ensures.keys;
      gone_empty = c.in_ok-room.ensures.gone_empty;
      gone_room = let room = c.in_ok-room.ensures.gone_room in let len = c.len-2.ensures in omega arith;
      here_empty = c.in_ok-room.ensures.here_empty;
      here_room = let room = c.in_ok-room.ensures.here_room in let len = c.len.ensures in omega arith;
    }
