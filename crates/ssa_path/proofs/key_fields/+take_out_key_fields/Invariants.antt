use Rattle.std.proofs.Common.{◌+◌, ◌*◌, ◌∷◌, not}
use Rattle.ssa_model.specs.definitions.Path.{key, is_key_field}
use Rattle.ssa_path.specs.Keys.{members_view}
use Rattle.ssa_path.specs.declared.trie.Trie.TheViews.{out-Trie}
use Rattle.ssa_path.proofs.KeyFields.{IsTakingKeys}
use Rattle.ssa_path.proofs.key_fields.+take_out_key_fields.Given as goal

abbrev pub invariant-take_out_key_fields-loop-i : goal.invariant-take_out_key_fields-loop-i
invariant-take_out_key_fields-loop-i l = record {
  unvisited : goal.unvisited-take_out_key_fields-loop-i l;
  taking : IsTakingKeys (λ p. not (is_key_field (key (members_view l.keys) ∷ p))) (out-Trie l.fn.own).below.items l.below.items l.i l.any_bare;
}

-- a child is as deep as its trie, so the step from the one to the other counts as well
abbrev pub decreases-take_out_key_fields : goal.decreases-take_out_key_fields
decreases-take_out_key_fields l = 2 * goal.size-take_out_key_fields l

abbrev pub decreases-take_out_of_child : goal.decreases-take_out_of_child
decreases-take_out_of_child l = 2 * goal.size-take_out_of_child l + 1
