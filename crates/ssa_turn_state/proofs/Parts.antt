-- A record takes one state to another by what its parts do with theirs.
use Rattle.std.proofs.Common.{ap, arith, not, subst, sym}
use Rattle.ssa_model.specs.definitions.Operations.{State}
use Rattle.ssa_model.specs.definitions.Record.{TableRecord, Record}
use Rattle.ssa_model.specs.definitions.Table.{is_in_table}
use Rattle.ssa_turn_table.specs.Turning.{IsTableTaken}
use Rattle.ssa_turn_table.specs.Writing.{HaveSmallPlaces}
use Rattle.ssa_turn_table.proofs.RecordMembers.{small-placed}
use Rattle.ssa_turn_state.specs.States.{IsTaken}

module _ (d : Record) (v w : State) (h : IsTaken d v w) where
  -- the record's part of the table takes the first table to the second
  pub table_taken : IsTableTaken d.table v.table w.table
  table_taken =
      let from = h.1.from.table.managers in
      let to = h.1.to.table.managers in
      record { takes = record { from = from.distinct; to = to.distinct; order = h.1.order; is = ap (λ (r : Record). r.table) h.1.is }; from = from; to = to }

  -- who comes stands at a small place
  pub here_small : HaveSmallPlaces d.table.here
  here_small =
      let few = h.1.to.table.managers.few in
      subst HaveSmallPlaces (sym (ap (λ (r : TableRecord). r.here) table_taken.takes.is))
      (small-placed (λ e. not (is_in_table v.table e.manager)) 0 w.table (omega (arith, few)))
