use Rattle.ssa_record.specs.ToldEntries.{told_put}
use Rattle.ssa_record.proofs.ToldLists.{IsReadTo}
use Rattle.std.specs.Borrow.{Bor}
use Rattle.ssa_json.specs.View.{view}
use Rattle.ssa_told.specs.declared.told.ToldPut.{ToldPut}
use Rattle.ssa_record.proofs.told_places.puts_told.Given as goal

-- what is passed is read
abbrev pub invariant-loop-put : goal.invariant-loop-put
invariant-loop-put l = IsReadTo told_put (λ (x : Bor ToldPut). (view x.now.value, x.now.place)) l.puts l.put-index l.fn.touched l.touched l.told.items
