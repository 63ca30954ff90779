use Rattle.std.proofs.lemmas.Result.{on_ok_weaker}
use Rattle.ssa_turn_table.proofs.table_delta.push_owning.Goals as goal

pub returns : goal.returns
returns c =
    on_ok_weaker c.push_made.result (λ behind. record {
      made = c.in_ok-made.made;
      behind = behind;
      tells = c.in_ok-made.ensures.change;
      room = c.in_ok-made.ensures.room;
    }) c.push_made.ensures
