use Rattle.std.proofs.Common.{sym, subst}
use Rattle.ssa_path.specs.Combine.{IsCombination}
use Rattle.ssa_path.specs.Trie.{paths, IsWithin}
use Rattle.ssa_path.specs.declared.combine.Combination.TheVariants.{Meet}
use Rattle.ssa_turn_set.proofs.LossRecords.{own-meet}
use Rattle.ssa_turn_set.proofs.loss.taken.Goals as goal

pub returns-then-has_all-clause-lost : goal.returns-then-has_all-clause-lost
returns-then-has_all-clause-lost c =
    let own = c.args.own.now in
    let within = subst (λ t. IsWithin (paths t) (paths own)) c.deref.ensures (c.in_ok-has_all.ensures.all c.if-has_all.true) in
    subst (IsCombination Meet c.args.lost.value own) (sym c.of_shared.ensures) (own-meet c.args.lost.value own c.requires.lost within)
