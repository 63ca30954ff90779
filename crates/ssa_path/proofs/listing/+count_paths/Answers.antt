use Rattle.std.proofs.Common.{arith, rules}
use Rattle.ssa_path.specs.declared.trie.Trie.{the_lemmas}
use Rattle.ssa_path.specs.declared.trie.Trie.TheViews.{out-Trie}
use Rattle.ssa_path.proofs.Levels.{trie-parts}
use Rattle.ssa_path.proofs.Lists.{child-trie}
use Rattle.ssa_path.proofs.InOrder.{counting-more, counting-all, rise-level}
use Rattle.ssa_path.proofs.listing.+count_paths.Goals as goal

pub count_paths-requires : goal.count_paths-requires
count_paths-requires t c =
    let filled = (trie-parts c.args.trie.now c.deref-child-items.result.now c.deref-child-items.ensures.value c.requires).1 in
    (search (rules, the_lemmas), child-trie c.deref-child-items.result.now c.loop-child.child-index c.child-item.result (omega arith) c.child-item.is filled)

pub loop-child-preserved : goal.loop-child-preserved
loop-child-preserved t c =
    counting-more (out-Trie c.args.trie.now).here c.deref-child-items.result.now c.loop-child.child-index c.child-item.result c.loop-child.count
    c.count_paths.result c.saturating_add-count.result (omega arith) c.child-item.is
    c.count_paths.ensures.count c.count_paths.ensures.rise c.saturating_add-count.ensures c.loop-child.invariant

pub returns-clause-count : goal.returns-clause-count
returns-clause-count t c = (counting-all c.args.trie.now c.loop-child.child-index c.deref-child-items.result.now c.loop-child.count
    c.deref-child-items.ensures.value c.loop-child-test.false c.loop-child.invariant).0

pub returns-clause-rise : goal.returns-clause-rise
returns-clause-rise t c = rise-level c.args.trie.now c.requires
    (counting-all c.args.trie.now c.loop-child.child-index c.deref-child-items.result.now c.loop-child.count c.deref-child-items.ensures.value
    c.loop-child-test.false c.loop-child.invariant).1
