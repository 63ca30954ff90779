use Rattle.std.proofs.Common.{◌-◌, ◌^◌, min, refl, sym, ap, true≢false, ◌∙◌}
use Rattle.ssa_typed.specs.Differences.{Added, Modified, Removed}
use Rattle.ssa_typed.proofs.Differing.{difference-made}
use Rattle.ssa_typed.proofs.NewPlaces.{new-level}
use Rattle.ssa_typed.proofs.Repeating.{repeat-level}
use Rattle.ssa_typed.proofs.compare.parts_of.Goals as goal
use Rattle.ssa_typed.proofs.compare.parts_of.Goals.{then-told, else-told}

pub returns-clause-told : goal.returns-clause-told
returns-clause-told c scope told =
    let n = c.args.before.now in
    let m = c.args.after.now in
    record {
      added_trie = difference-made Added n m _ refl told.added_below;
      modified_trie = difference-made Modified n m _ c.is_other_leaf-here.ensures told.modified_below;
      removed_trie = difference-made (Removed scope) n m _ refl told.removed_below;
      new_are = told.new_are ∙ ap (λ k. min k (2 ^ 64 - 1)) (sym (new-level n c.requires.before m));
    }

pub returns-clause-repeats : goal.returns-clause-repeats
returns-clause-repeats c children repeats =
    elim c.if-told.branch [
      | then-told w ↦
          repeat-level c.args.before.now c.args.after.now c.requires.before c.requires.after (w.is_branch_like-repeats.ensures (sym w.repeats-is ∙ repeats))
          (children w.if-told.true)
      | else-told w ↦ absurd (true≢false (sym repeats ∙ w.repeats-is ∙ w.if-told.false))
    ]
