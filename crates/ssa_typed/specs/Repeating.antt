-- A tree that is put over another and leaves it as it is, where the items that both have stand in one order.
use Rattle.std.specs.Prelude.{◌≡◌, List, Option, false}
use Rattle.ssa_model.specs.definitions.Body.{Content, over_content}
use Rattle.ssa_model.specs.definitions.Path.{Element, Path}
use Rattle.ssa_model.specs.definitions.Record.{is_reordered}
use Rattle.ssa_path.specs.Children.{child_at}
use Rattle.ssa_path.specs.declared.element.Elem.{Elem}
use Rattle.ssa_typed.specs.Points.{content_in}
use Rattle.ssa_typed.specs.Rows.{content_at, rows}
use Rattle.ssa_typed.specs.declared.node.Node.{Node}

-- where the items of both stand in one order, the second content, put over the first, leaves it as it is
abbrev pub Repeats : Option Content → Option Content → Type 0
Repeats live config = is_reordered live config ≡ false → live ≡ over_content live config

-- so does the second tree, at each path
abbrev pub TreeRepeats : Node → Node → Type 0
TreeRepeats live config = (p : Path) → Repeats (content_at (rows live) p) (content_at (rows config) p)

-- so do the second children, at each path below each element
abbrev pub ChildrenRepeat : List (Elem × Node) → List (Elem × Node) → Type 0
ChildrenRepeat live config = (e : Element) (p : Path) → Repeats (content_in (child_at e live) p) (content_in (child_at e config) p)
