use Rattle.std.proofs.Common.{◌≡◌, ◌+◌, ◌-◌, ◌≤◌}
use Rattle.std.specs.Prelude.{vec_len, vec_capacity}
use Rattle.arrayvec.specs.ArrayVec.{array_vec_len}
use Rattle.ssa_model.specs.definitions.Record.{gone_from}
use Rattle.ssa_model.specs.definitions.Table.{Table}
use Rattle.ssa_merge.specs.Managers.{table_view}
use Rattle.ssa_turn_table.specs.Tables.{keys_view}
use Rattle.ssa_turn_table.specs.Going.{AllKeysAgree}
use Rattle.ssa_turn_table.proofs.Taking.{IsTaking}
use Rattle.ssa_turn_table.proofs.going.take_gone.Given as goal

abbrev pub invariant-loop-i : goal.invariant-loop-i
invariant-loop-i l = record {
  taking : (u : Table) → keys_view l.fn.gone.items ≡ gone_from (table_view l.fn.entries.items) u
      → IsTaking u l.fn.entries.items l.entries.items l.gone.items l.out.items l.i (l.i + vec_len l.out);
  keys : AllKeysAgree l.out.items;
  room : vec_len l.out + vec_len l.gone ≤ vec_capacity l.out;
  left : vec_capacity l.gone ≡ vec_capacity l.fn.gone;
  told : (u : Table) × (keys_view l.fn.gone.items ≡ gone_from (table_view l.fn.entries.items) u);
}

abbrev pub decreases-loop-i : goal.decreases-loop-i
decreases-loop-i l = array_vec_len l.entries - l.i
