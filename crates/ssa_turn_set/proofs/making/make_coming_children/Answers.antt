use Rattle.std.proofs.Common.{arith}
use Rattle.std.proofs.lemmas.Result.{IfOk-weaker}
use Rattle.ssa_path.specs.declared.trie.Trie.TheViews.{out-Trie}
use Rattle.ssa_turn_set.proofs.making.make_coming_children.Goals as goal

pub overflow_sub-len : goal.overflow_sub-len
overflow_sub-len c =
    let own = (out-Trie c.args.own.now).below.ok.0 in
    omega arith

pub returns-clause-fits : goal.returns-clause-fits
returns-clause-fits c =
    let own = (out-Trie c.args.own.now).below.ok.0 in
    IfOk-weaker c.with_capacity.result _ _ (λ v wide. λ lt. omega arith) c.with_capacity.ensures.capacity
