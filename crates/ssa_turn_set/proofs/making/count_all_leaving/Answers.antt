use Rattle.std.proofs.Common.{ap, ◌∙◌, arith}
use Rattle.std.proofs.lemmas.List.{take_all}
use Rattle.ssa_path.proofs.Lists.{child-trie}
use Rattle.ssa_turn_set.specs.Room.{leaving_beside}
use Rattle.ssa_turn_set.proofs.Telling.{beside-most, beside-one-more}
use Rattle.ssa_turn_set.proofs.making.count_all_leaving.Goals as goal

pub count_leaving-count-requires-clause-lost : goal.count_leaving-count-requires-clause-lost
count_leaving-count-requires-clause-lost c =
    child-trie c.args.lost.now c.loop-child.child-index c.child-item.result (omega arith) c.child-item.is c.requires.lost

pub loop-child-preserved : goal.loop-child-preserved
loop-child-preserved c =
    let few = c.loop-child.invariant.few in
    let most = beside-most c.args.gained.now c.child-item.result c.args.own.now in
    let one = c.count_leaving-count.ensures in
    record {
      count = beside-one-more c.args.gained.now c.args.lost.now c.args.own.now c.loop-child.child-index c.loop-child.count c.count_leaving-count.result
          c.child-item.result (omega arith) c.child-item.is c.loop-child.invariant.count one;
      few = omega arith;
    }

pub overflow_add-count : goal.overflow_add-count
overflow_add-count c =
    let few = c.loop-child.invariant.few in
    let most = beside-most c.args.gained.now c.child-item.result c.args.own.now in
    let one = c.count_leaving-count.ensures in
    omega arith

pub returns : goal.returns
returns c =
    c.loop-child.invariant.count ∙ ap (λ l. leaving_beside c.args.gained.now l c.args.own.now) (take_all c.loop-child.child-index c.args.lost.now c.loop-child-test.false)
