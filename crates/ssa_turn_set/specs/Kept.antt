-- The trie of the paths that a record keeps.
use Rattle.ssa_path.specs.declared.trie.Trie.{Trie}
use Rattle.ssa_turn_set.specs.declared.kept_paths.Holder.{Holder}
use Rattle.ssa_turn_set.specs.declared.kept_paths.Holder.TheVariants.{Own, Shared}

abbrev pub held : Holder → Trie
held (Own trie) = trie
held (Shared trie) = trie.value
