use Rattle.std.proofs.Common.{◌≡◌, ◌≤◌, length, arith}
use Rattle.std.proofs.lemmas.List.{length-map}
use Rattle.ssa_model.specs.definitions.Record.{table_record}
use Rattle.ssa_merge.specs.Managers.{entry_view, table_view}
use Rattle.ssa_turn_table.specs.declared.delta.TableDelta.{TableDelta}
use Rattle.ssa_turn_table.specs.Turning.{table_steps}
use Rattle.ssa_turn_table.proofs.TurnedTables.{few_led}
use Rattle.ssa_turn_table.proofs.between.table_between.Goals as goal

pub returns-clause-room : goal.returns-clause-room
returns-clause-room c =
    let t = table_view c.args.from.now in
    let u = table_view c.args.to.now in
    let d : TableDelta = record { changed = c.in_ok-changed.changed; gone = c.in_ok-gone.gone; here = c.in_ok-here.here; room = c.in_ok-room.room } in
    let is : table_steps d ≡ table_record t u =
    λ i. record { changed = c.in_ok-changed.ensures.changes i; gone = c.in_ok-gone.ensures i; here = c.in_ok-here.ensures.here i } in
    let long = length-map c.args.to.now entry_view in
    let most = c.requires.few in
    let few : length u ≤ 64 = omega arith in
    record {
      few = few_led (table_steps d) t u (record { from = c.requires.from; to = c.requires.to; order = c.requires.order; is = is }) few;
      sets = c.in_ok-changed.ensures.room;
      keys = c.in_ok-here.ensures.keys;
      gone_empty = c.in_ok-room.ensures.gone_empty;
      gone_room = let room = c.in_ok-room.ensures.gone_room in let len = c.len-2.ensures in omega arith;
      here_empty = c.in_ok-room.ensures.here_empty;
      here_room = let room = c.in_ok-room.ensures.here_room in let len = c.len.ensures in omega arith;
    }
