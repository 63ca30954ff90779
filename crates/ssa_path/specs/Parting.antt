-- What one set has and another lacks, child by child.
use Rattle.std.specs.Prelude.{◌≡◌, List, [], ◌∷◌, ◌++◌, true}
use Rattle.ssa_path.specs.declared.combine.Combination.TheVariants.{Minus}
use Rattle.ssa_path.specs.declared.element.Elem.{Elem}
use Rattle.ssa_path.specs.declared.trie.Trie.{Trie}
use Rattle.ssa_path.specs.View.{element_view}
use Rattle.ssa_path.specs.Trie.{paths, is_filled, IsWithin}
use Rattle.ssa_path.specs.Combine.{IsCombination}

-- the children, behind which stands what one child has and the other lacks: nothing where it lacks nothing
pub data IsLeft (c d : Elem × Trie) (old new : List (Elem × Trie)) : Type 0 where
  Nothing_left : IsWithin (paths c.1) (paths d.1) → new ≡ old → IsLeft c d old new
  Some_left : (u : Elem × Trie) → element_view u.0 ≡ element_view c.0 → IsCombination Minus c.1 d.1 u.1 → is_filled u.1 ≡ true → new ≡ old ++ u ∷ []
      → IsLeft c d old new
