use Rattle.std.proofs.Common.{ap, ◌∙◌}
use Rattle.ssa_model.proofs.Basics.{both-true as both}
use Rattle.ssa_path.specs.Trie.{paths}
use Rattle.ssa_path.specs.View.{element_view}
use Rattle.ssa_path.proofs.Orders.{both_first, both_second}
use Rattle.ssa_turn_set.specs.Room.{serves}
use Rattle.ssa_turn_set.specs.Spare.{is_nothing}
use Rattle.ssa_turn_set.proofs.Bare.{leaf-gain, lose-leaf}
use Rattle.ssa_turn_set.proofs.lose.lose_lone.Goals as goal

pub lose_leaf-requires-clause-leaf : goal.lose_leaf-requires-clause-leaf
lose_leaf-requires-clause-leaf c =
    lose-leaf c.args.lost.now.1 c.requires.form.0 (both_second (is_nothing c.args.spare.now) _ c.requires.form.1)

pub returns-clause-room : goal.returns-clause-room
returns-clause-room c k =
    let d = c.args.lost.now in
    let leaf = lose-leaf d.1 c.requires.form.0 (both_second (is_nothing c.args.spare.now) _ c.requires.form.1) in
    both _ _
    (ap (λ m. serves (element_view d.0) (paths m) c.keep_bare.new.spare) c.keep_bare.ensures.place
    ∙ c.keep_bare.ensures.spare (element_view d.0) c.requires.element (both_first _ _ k))
    (leaf-gain d.1 leaf _)
