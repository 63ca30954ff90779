use Rattle.ssa_record.proofs.ToldLists.{IsReadTo}
use Rattle.ssa_model.specs.definitions.Path.{Path}
use Rattle.ssa_record.proofs.told_places.cut_told.Given as goal

-- what is passed is read
abbrev pub invariant-loop-path : goal.invariant-loop-path
invariant-loop-path l = IsReadTo (λ (p : Path). (p, tt)) (λ (u : Unit {0}). u) l.cut l.path-index l.fn.touched l.touched l.told.items
