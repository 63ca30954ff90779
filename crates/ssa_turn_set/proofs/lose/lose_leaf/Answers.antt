use Rattle.std.proofs.Common.{◌&&◌, ◌∙◌, not, ap, sym}
use Rattle.ssa_model.proofs.Basics.{and-true}
use Rattle.ssa_path.specs.declared.trie.Trie.TheViews.{out-Trie}
use Rattle.ssa_path.specs.Trie.{is_one_of, paths_below}
use Rattle.ssa_turn_set.specs.Room.{children}
use Rattle.ssa_turn_set.proofs.Losing.{lost-place}
use Rattle.ssa_turn_set.proofs.lose.lose_leaf.Goals.{then-set, else-set}
use Rattle.ssa_turn_set.proofs.lose.lose_leaf.Goals as goal

pub returns-clause-paths : goal.returns-clause-paths
returns-clause-paths c =
    let own = children c.args.set.now in
    lost-place _ c.args.lost.now c.args.set.now
    (elim c.if-set.branch [
      | then-set w ↦ w.set-is ∙ sym (ap (λ b. b && not (out-Trie c.args.lost.now).here) w.if-set.true)
      | else-set w ↦ w.set-is ∙ w.if-set.false ∙ sym (ap (λ b. b && not (out-Trie c.args.lost.now).here) w.if-set.false)
    ])
    (λ p. sym (and-true (is_one_of (paths_below own) p)) ∙ ap (λ l. is_one_of (paths_below own) p && not (is_one_of (paths_below l) p)) (sym c.requires.leaf))
