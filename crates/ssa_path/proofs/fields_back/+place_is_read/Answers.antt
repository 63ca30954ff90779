use Rattle.std.proofs.Common.{arith, rules, subst, take_all}
use Rattle.ssa_path.specs.declared.trie.Trie.{the_lemmas}
use Rattle.ssa_path.proofs.FieldsBack.{AreBackChildren, back-more, paths-back}
use Rattle.ssa_path.proofs.Levels.{trie-parts}
use Rattle.ssa_path.proofs.Lists.{child-trie}
use Rattle.ssa_path.proofs.fields_back.+place_is_read.Goals as goal

pub place_is_read-requires : goal.place_is_read-requires
place_is_read-requires t c =
    let filled = (trie-parts c.args.place.now c.deref-child-items.result.now c.deref-child-items.ensures.value c.requires).1 in
    (search (rules, the_lemmas), child-trie c.deref-child-items.result.now c.loop-child.child-index c.child-item.result (omega arith) c.child-item.is filled)

pub loop-child-preserved : goal.loop-child-preserved
loop-child-preserved t c =
    back-more c.deref-child-items.result.now c.loop-child.child-index c.child-item.result (omega arith) c.child-item.is c.loop-child.invariant
    c.is_of_program.ensures c.place_is_read.ensures

pub returns : goal.returns
returns t c =
    let cs = c.deref-child-items.result.now in
    let all = subst AreBackChildren (take_all c.loop-child.child-index cs c.loop-child-test.false) c.loop-child.invariant in
    paths-back c.args.place.now cs c.deref-child-items.ensures.value c.requires all
