-- The paths that are no key fields of items, walked to from the element above each.
use Rattle.std.specs.Prelude.{◌≡◌, [], ◌∷◌, Bool, true, not, ◌&&◌}
use Rattle.ssa_model.specs.definitions.Path.{Element, Path, field, key, value, is_key_field}
use Rattle.ssa_path.specs.Keys.{Members}
use Rattle.ssa_path.specs.Trie.{is_one_of, is_trie, paths}
use Rattle.ssa_path.specs.declared.trie.Trie.{Trie}

-- the key fields that the element names an item by
abbrev pub keys_in : Element → Members
keys_in (field n) = []
keys_in (key ks) = ks
keys_in (value s) = []

-- what is left of a place below the item of these key fields: the place itself as told, and below it what is no key field
pub record IsWithoutKeyFields (ks : Members) (own : Trie) (stays : Bool) (t : Trie) : Type 0 where
  pub root : is_one_of (paths t) [] ≡ stays
  pub below : (e : Element) (p : Path) → is_one_of (paths t) (e ∷ p) ≡ (is_one_of (paths own) (e ∷ p) && not (is_key_field (key ks ∷ e ∷ p)))
  pub trie : is_trie t ≡ true
