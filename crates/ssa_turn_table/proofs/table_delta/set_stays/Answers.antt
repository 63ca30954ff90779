use Rattle.std.proofs.Common.{refl, subst, sym}
use Rattle.ssa_turn_set.specs.Turn.{IsBetween}
use Rattle.ssa_turn_set.specs.declared.room.Room.TheVariants.{Nothing}
use Rattle.ssa_turn_set.proofs.Turning.{record_of}
use Rattle.ssa_turn_table.proofs.Staying.{stays-between}
use Rattle.ssa_turn_table.proofs.table_delta.set_stays.Goals as goal

pub returns : goal.returns
returns c = λ s.
    subst (IsBetween s s) (λ i. record_of (sym c.of_trie.ensures i) (sym c.of_trie-2.ensures i) Nothing Nothing)
    (stays-between _ _ (record { here = refl; below = c.new.ensures.items }) (record { here = refl; below = c.new-2.ensures.items }) s)
