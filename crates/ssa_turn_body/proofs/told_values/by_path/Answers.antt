use Rattle.ssa_turn_body.proofs.ValuesInOrder.{sorted-more}
use Rattle.ssa_turn_body.proofs.told_values.by_path.Goals as goal

pub loop-path-preserved : goal.loop-path-preserved
loop-path-preserved c =
    sorted-more c.args.told.items c.loop-path.rest.items c.pop.new.self.items c.loop-path.sorted.entries c.insert.new.self.entries c.in-Some.path
    c.in-Some.value
    c.loop-path.invariant c.in-Some.ensures.items c.in_ok-insert.ensures.entries
