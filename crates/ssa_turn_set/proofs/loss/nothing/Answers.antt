use Rattle.std.proofs.Common.{refl, ap, ◌∙◌}
use Rattle.ssa_path.specs.Trie.{is_trie, paths}
use Rattle.ssa_turn_set.specs.Room.{gain_room}
use Rattle.ssa_turn_set.specs.declared.room.Room.TheVariants.{Nothing}
use Rattle.ssa_turn_set.proofs.Bare.{bare-gain, bare-paths, bare-trie}
use Rattle.ssa_turn_set.proofs.loss.nothing.Goals as goal

pub returns-clause-paths : goal.returns-clause-paths
returns-clause-paths c = ap paths c.of_trie.ensures ∙ bare-paths _ (record { here = refl; below = c.new.ensures.items })

pub returns-clause-trie : goal.returns-clause-trie
returns-clause-trie c = ap is_trie c.of_trie.ensures ∙ bare-trie _ (record { here = refl; below = c.new.ensures.items })

pub returns-clause-room : goal.returns-clause-room
returns-clause-room c = λ ps.
    ap (λ t. gain_room t ps Nothing) c.of_trie.ensures ∙ bare-gain _ (record { here = refl; below = c.new.ensures.items }) ps
