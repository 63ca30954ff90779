use Rattle.std.proofs.Common.{[], not, sym, ap, ◌∙◌}
use Rattle.ssa_turn_body.specs.Told.{from_place}
use Rattle.ssa_turn_body.proofs.Finishing.{leaf-told}
use Rattle.ssa_turn_body.proofs.Recording.{leaves-same}
use Rattle.ssa_turn_body.proofs.walk.is_same_leaf.Goals as goal

pub returns-in-Leaf-Leaf : goal.returns-in-Leaf-Leaf
returns-in-Leaf-Leaf c = λ same q.
    let leaves = c.in-Leaf-Leaf in
    let alike = leaves-same leaves.own leaves.other (c.same_leaf.ensures ∙ ap not same) in
    leaf-told c.args.from.now leaves.own leaves.is-0 q ∙ ap (λ x. from_place (x, []) q) alike ∙ sym (leaf-told c.args.to.now leaves.other leaves.is-1 q)
