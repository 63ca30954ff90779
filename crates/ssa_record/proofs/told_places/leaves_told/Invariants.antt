use Rattle.ssa_record.specs.ToldEntries.{told_leaf}
use Rattle.ssa_record.proofs.ToldLists.{IsReadTo}
use Rattle.std.specs.Borrow.{Bor}
use Rattle.ssa_json.specs.View.{view}
use Rattle.ssa_json.specs.declared.value.Json.{Json}
use Rattle.ssa_record.proofs.told_places.leaves_told.Given as goal

-- what is passed is read
abbrev pub invariant-loop-leaf : goal.invariant-loop-leaf
invariant-loop-leaf l = IsReadTo told_leaf (λ (v : Bor Json). view v.now) l.leaves l.leaf-index l.fn.touched l.touched l.told.items
