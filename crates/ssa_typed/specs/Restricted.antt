-- The part of a tree that stays.
use Rattle.std.specs.Prelude.{◌≡◌, List, [], ◌∷◌, Bool, true, ◌||◌, filter, Option, None, option_map, if◌then◌else◌}
use Rattle.std.specs.List.{list_any}
use Rattle.ssa_model.specs.definitions.Body.{Content, restricted_content}
use Rattle.ssa_model.specs.definitions.Path.{Element, Path, is_root, under}
use Rattle.ssa_path.specs.Children.{child_at, elements}
use Rattle.ssa_path.specs.declared.element.Elem.{Elem}
use Rattle.ssa_typed.specs.Points.{content_in}
use Rattle.ssa_typed.specs.Rows.{rows, content_at, is_tree, are_trees}
use Rattle.ssa_typed.specs.declared.node.Node.{Node}

-- the root, and what is at or above one of these paths
abbrev pub stays : List Path → Path → Bool
stays ps p = is_root p || list_any (under p) ps

-- what stays of the content at a path
abbrev pub part_at : (Path → Bool) → Path → Option Content → Option Content
part_at test p c = if test p then option_map (restricted_content test p) c else None

pub record IsRestricted (ps : List Path) (n made : Node) : Type 0 where
  pub content : (p : Path) → content_at (rows made) p ≡ part_at (stays ps) p (content_at (rows n) p)
  pub tree : is_tree made ≡ true

-- what stays of the children of a node
pub record AreRestricted (ps : List Path) (cs made : List (Elem × Node)) : Type 0 where
  pub elements_are : elements made ≡ filter (λ e. stays ps (e ∷ [])) (elements cs)
  pub contents : (e : Element) (p : Path) → content_in (child_at e made) p ≡ part_at (stays ps) (e ∷ p) (content_in (child_at e cs) p)
  pub trees : are_trees made ≡ true
