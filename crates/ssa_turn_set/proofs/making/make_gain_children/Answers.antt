use Rattle.std.proofs.Common.{◌+◌, ap, ◌∙◌, arith}
use Rattle.ssa_path.specs.declared.trie.Trie.TheViews.{out-Trie}
use Rattle.ssa_path.proofs.Levels.{trie-parts}
use Rattle.ssa_turn_set.specs.Room.{leaving_beside}
use Rattle.ssa_turn_set.proofs.Staying.{left-most, more-stays}
use Rattle.ssa_turn_set.proofs.Telling.{goes-not}
use Rattle.ssa_turn_set.proofs.making.make_gain_children.Goals as goal

pub returns-then-len-clause-goes : goal.returns-then-len-clause-goes
returns-then-len-clause-goes c =
    let own = (out-Trie c.args.own.now).below.ok.0 in
    let lost = (out-Trie c.args.lost.now).below.ok.0 in
    goes-not _ (more-stays c.args.own.now c.args.lost.now c.requires.own c.requires.lost (omega arith))

pub count_all_leaving-requires-clause-rise : goal.count_all_leaving-requires-clause-rise
count_all_leaving-requires-clause-rise c = (trie-parts c.args.own.now c.deref.result.now c.deref.ensures.value c.requires.own).0

pub count_all_leaving-requires-clause-gained : goal.count_all_leaving-requires-clause-gained
count_all_leaving-requires-clause-gained c = (trie-parts c.args.gained.now c.deref-3.result.now c.deref-3.ensures.value c.requires.gained).0

pub overflow_add-leaving : goal.overflow_add-leaving
overflow_add-leaving c =
    let beside = c.count_all_leaving.ensures ∙ (λ i. leaving_beside (c.deref-3.ensures.value i) (c.deref-2.ensures.value i) (c.deref.ensures.value i)) in
    let told = c.requires.going in
    let most = left-most c.args.own.now c.args.lost.now c.requires.own c.requires.lost in
    let own = (out-Trie c.args.own.now).below.ok.0 in
    omega arith

pub make_coming_children-requires-clause-leaving : goal.make_coming_children-requires-clause-leaving
make_coming_children-requires-clause-leaving c =
    let beside = c.count_all_leaving.ensures ∙ (λ i. leaving_beside (c.deref-3.ensures.value i) (c.deref-2.ensures.value i) (c.deref.ensures.value i)) in
    let told = c.requires.going in
    let most = left-most c.args.own.now c.args.lost.now c.requires.own c.requires.lost in
    omega arith

pub goes_whole-requires-clause-gone : goal.goes_whole-requires-clause-gone
goes_whole-requires-clause-gone c =
    ap (λ n. c.args.going + n)
    (c.count_all_leaving.ensures ∙ (λ i. leaving_beside (c.deref-3.ensures.value i) (c.deref-2.ensures.value i) (c.deref.ensures.value i)))
    ∙ c.requires.going

pub returns-clause-fits : goal.returns-clause-fits
returns-clause-fits c lt =
    let beside = c.count_all_leaving.ensures ∙ (λ i. leaving_beside (c.deref-3.ensures.value i) (c.deref-2.ensures.value i) (c.deref.ensures.value i)) in
    let told = c.requires.going in
    let most = left-most c.args.own.now c.args.lost.now c.requires.own c.requires.lost in
    let fits = c.in_ok-children.ensures.fits lt in
    omega arith
