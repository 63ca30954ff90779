-- The trees that bodies have.
use Rattle.std.specs.Prelude.{◌≡◌, true}
use Rattle.ssa_model.specs.definitions.Valid.{IsRooted}
use Rattle.ssa_typed.specs.Rows.{body_of, is_tree}
use Rattle.ssa_typed.specs.declared.node.Node.{Node}

-- the children of each place stand well, and the body is rooted
pub record IsBodyTree (root : Node) : Type 0 where
  pub tree : is_tree root ≡ true
  pub rooted : IsRooted (body_of root)
