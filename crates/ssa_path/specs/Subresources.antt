-- The parts of an object, as the program tells them.
use Rattle.std.specs.Prelude.{◌≡◌, List, [], ◌∷◌, Bool, true, ◌&&◌, Option, Some, None, codes}
use Rattle.std.specs.List.{filter}
use Rattle.ssa_model.specs.definitions.Json.{Text}
use Rattle.ssa_model.specs.definitions.Path.{Path}
use Rattle.ssa_model.specs.definitions.Parts.{Subresource, main, status, is_path_of}
use Rattle.ssa_path.specs.Trie.{is_one_of, is_trie, paths}
use Rattle.ssa_path.specs.View.{element_view}
use Rattle.ssa_path.specs.declared.element.Elem.{Elem}
use Rattle.ssa_path.specs.declared.part.Part.{Part}
use Rattle.ssa_path.specs.declared.part.Part.TheVariants.{Main, Status}
use Rattle.ssa_path.specs.declared.trie.Trie.{Trie}

abbrev pub part_view : Part → Subresource
part_view Main = main
part_view Status = status

-- the name of a subresource
abbrev pub subresource_text : Subresource → Option Text
subresource_text main = None
subresource_text status = Some (codes "status")

abbrev pub other_part : Subresource → Subresource
other_part main = status
other_part status = main

-- the children of a root that are of the part
abbrev pub in_part : {A : Type 0} → Subresource → List (Elem × A) → List (Elem × A)
in_part s cs = filter (λ c. is_path_of s (element_view c.0 ∷ [])) cs

-- the children of a root are all of the part
abbrev pub are_in_part : {A : Type 0} → Subresource → List (Elem × A) → Bool
are_in_part s [] = true
are_in_part s (c ∷ cs) = is_path_of s (element_view c.0 ∷ []) && are_in_part s cs

-- the paths of the trie are of the part
abbrev pub LiesIn : Subresource → Trie → Type 0
LiesIn s t = (p : Path) → is_one_of (paths t) p ≡ true → is_path_of s p ≡ true

-- the paths of a trie that are of the part
pub record IsPartOf (s : Subresource) (old new : Trie) : Type 0 where
  pub paths_are : (p : Path) → is_one_of (paths new) p ≡ (is_one_of (paths old) p && is_path_of s p)
  pub trie : is_trie new ≡ true
