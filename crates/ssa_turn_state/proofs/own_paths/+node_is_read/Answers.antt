use Rattle.std.proofs.Common.{arith, rules, subst, take_all}
use Rattle.ssa_model.specs.definitions.RecordReading.{HasReadPaths}
use Rattle.ssa_json.specs.Readings.{readings}
use Rattle.ssa_typed.specs.declared.node.Node.{the_lemmas}
use Rattle.ssa_typed.specs.Rows.{body_of}
use Rattle.ssa_turn_state.proofs.OwnPaths.{AreReadChildren, children-more, leaf-read, tree-read}
use Rattle.ssa_turn_state.proofs.own_paths.+node_is_read.Goals as goal
use Rattle.ssa_turn_state.proofs.own_paths.+node_is_read.Goals.{in-Leaf, in_default}

pub node_is_read-requires : goal.node_is_read-requires
node_is_read-requires t c = search (rules, the_lemmas)

pub loop-child-preserved : goal.loop-child-preserved
loop-child-preserved t c =
    let below : HasReadPaths readings (body_of c.child-item.result.1) = elim c.match-child.branch [
      | in-Leaf w ↦ leaf-read c.child-item.result.1 w.in-Leaf.field-0 w.in-Leaf.is
      | in_default w ↦ w.node_is_read.ensures
    ] in
    children-more c.children-child-items.result.now c.loop-child.child-index c.child-item.result (omega arith) c.child-item.is c.loop-child.invariant
    c.is_of_program.ensures below

pub returns : goal.returns
returns t c =
    let cs = c.children-child-items.result.now in
    let all = subst AreReadChildren (take_all c.loop-child.child-index cs (omega arith)) c.loop-child.invariant in
    tree-read c.args.node.now cs c.children-child-items.ensures.rows all
