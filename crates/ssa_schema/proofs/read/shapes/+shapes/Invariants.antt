use Rattle.std.proofs.Common.{◌≡◌, ◌+◌, ◌*◌, map, take}
use Rattle.ssa_schema.specs.Kinds.{shape_view}
use Rattle.ssa_schema.specs.Builds.{shape_at}
use Rattle.ssa_schema.proofs.Made.{named, asked}
use Rattle.ssa_schema.proofs.read.shapes.+shapes.Given as goal

abbrev pub decreases-shape_of : goal.decreases-shape_of
decreases-shape_of l = 5 * l.levels

abbrev pub decreases-shape_of_object : goal.decreases-shape_of_object
decreases-shape_of_object l = 5 * l.levels + 4

abbrev pub decreases-list_shape : goal.decreases-list_shape
decreases-list_shape l = 5 * l.levels + 3

abbrev pub decreases-fields_shape : goal.decreases-fields_shape
decreases-fields_shape l = 5 * l.levels + 3

abbrev pub decreases-property_shapes : goal.decreases-property_shapes
decreases-property_shapes l = 5 * l.levels + 2

abbrev pub decreases-shapes_of : goal.decreases-shapes_of
decreases-shapes_of l = 5 * l.levels + 1

-- the schemas so far have their shapes
abbrev pub invariant-shapes_of-loop-name : goal.invariant-shapes_of-loop-name
invariant-shapes_of-loop-name l = map (named shape_view) l.found.items ≡ map (asked (shape_at l.levels)) (take l.name-index l.name-items)
