-- Bodies whose common items stand in one order, list by list.
use Rattle.std.specs.Prelude.{◌≡◌, List, Some, false}
use Rattle.ssa_model.specs.definitions.Body.{Body}
use Rattle.ssa_model.specs.definitions.Path.{Element, Path}
use Rattle.ssa_model.specs.definitions.PathMap.{get}
use Rattle.ssa_model.specs.definitions.Record.{is_reordered}
use Rattle.ssa_path.specs.Children.{child_at}
use Rattle.ssa_path.specs.declared.element.Elem.{Elem}
use Rattle.ssa_typed.specs.Rows.{content_at, rows}
use Rattle.ssa_typed.specs.declared.node.Node.{Node}

-- at each path at which both have a list, the items of both stand in one order
abbrev pub KeepsItemOrder : Body → Body → Type 0
KeepsItemOrder live config = (p : Path) → is_reordered (get live p) (get config p) ≡ false

-- the same, of the trees of bodies
abbrev pub TreeKeepsOrder : Node → Node → Type 0
TreeKeepsOrder live config = (p : Path) → is_reordered (content_at (rows live) p) (content_at (rows config) p) ≡ false

-- of each two children of one element
abbrev pub ChildrenKeepOrder : List (Elem × Node) → List (Elem × Node) → Type 0
ChildrenKeepOrder live config = (e : Element) (c d : Node) → child_at e live ≡ Some c → child_at e config ≡ Some d → TreeKeepsOrder c d
