use Rattle.std.proofs.Common.{arith}
use Rattle.ssa_model.specs.definitions.Path.{Path}
use Rattle.ssa_record.proofs.ToldLists.{read-more}
use Rattle.ssa_record.proofs.told_places.cut_told.Goals as goal

pub loop-path-preserved : goal.loop-path-preserved
loop-path-preserved c =
    read-more (λ (p : Path). (p, tt)) (λ (u : Unit {0}). u) c.args.cut.now c.loop-path.path-index c.path-item.result c.args.touched.now c.loop-path.touched
    c.insert.new.self c.loop-path.told.items c.push.new.self.items _
    (omega arith) c.path-item.is c.loop-path.invariant c.in_ok-insert.ensures.ok c.in_ok-push.ensures.items (λ i. (c.lent.ensures i, tt))
