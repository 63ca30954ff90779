-- The part of a tree, and trees put together of two parts.
use Rattle.std.specs.Prelude.{◌≡◌, List, [], ◌∷◌, ◌++◌, true, ◌||◌, Option, Some, None, if◌then◌else◌}
use Rattle.ssa_model.specs.definitions.Body.{record_branch}
use Rattle.ssa_model.specs.definitions.Parts.{Subresource, is_path_of}
use Rattle.ssa_model.specs.definitions.Path.{Element, Path, is_root}
use Rattle.ssa_path.specs.Children.{child_at, elements, rises}
use Rattle.ssa_path.specs.View.{element_view}
use Rattle.ssa_path.specs.declared.element.Elem.{Elem}
use Rattle.ssa_typed.specs.Points.{content_in}
use Rattle.ssa_typed.specs.Restricted.{part_at}
use Rattle.ssa_typed.specs.Rows.{are_fields, are_trees, content_at, is_tree, own_content, rows}
use Rattle.ssa_typed.specs.declared.node.Node.{Node}

-- the tree of a record
pub record IsRecord (n : Node) : Type 0 where
  pub tree : is_tree n ≡ true
  pub record_is : own_content n ≡ record_branch

-- the root, and what the tree has in the part
pub record IsInPart (s : Subresource) (n made : Node) : Type 0 where
  pub content : (p : Path) → content_at (rows made) p ≡ part_at (λ q. is_root q || is_path_of s q) p (content_at (rows n) p)
  pub tree : is_tree made ≡ true

-- what the first tree has in the part, and what the second has outside it
pub record IsSpliced (s : Subresource) (n m made : Node) : Type 0 where
  pub content : (p : Path) → content_at (rows made) p ≡ (if is_path_of s p then content_at (rows n) p else content_at (rows m) p)
  pub tree : is_tree made ≡ true

-- the children with one more among them, where the elements rise
pub record HasPut (c : Elem × Node) (cs ds : List (Elem × Node)) : Type 0 where
  pub front : List (Elem × Node)
  pub back : List (Elem × Node)
  pub parts : cs ≡ front ++ back
  pub put : ds ≡ front ++ c ∷ back
  pub risen : rises (elements ds) ≡ true

-- the children with one more at its place, or as they are
abbrev pub IsPut : Option (Elem × Node) → List (Elem × Node) → List (Elem × Node) → Type 0
IsPut None cs ds = ds ≡ cs
IsPut (Some c) cs ds = HasPut c cs ds

-- no child has the element of the one that is to be put
abbrev pub IsNew : Option (Elem × Node) → List (Elem × Node) → Type 0
IsNew None cs = Unit {0}
IsNew (Some c) cs = child_at (element_view c.0) cs ≡ None

-- the first children that are of the part, and the others that are not, each with the same content
pub record AreSpliced (s : Subresource) (cs ds made : List (Elem × Node)) : Type 0 where
  pub children : (e : Element) (p : Path) → content_in (child_at e made) p ≡ content_in (if is_path_of s (e ∷ []) then child_at e cs else child_at e ds) p
  pub risen : rises (elements made) ≡ true
  pub fields : are_fields (elements cs) ≡ true → are_fields (elements ds) ≡ true → are_fields (elements made) ≡ true
  pub trees : are_trees cs ≡ true → are_trees ds ≡ true → are_trees made ≡ true
